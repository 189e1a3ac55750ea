pub mod LocalsDepth
