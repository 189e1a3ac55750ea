-- The scope's rule: when tables fit a text.
use Rattle.std.specs.Prelude.{◌/◌, ◌&&◌}
use Rattle.lists.specs.Prelude.{ℕ, Bool, true, false, List, leb, length, take}
use Rattle.text_utf8.specs.Trim.{trimmed}
use Rattle.text_utf8.specs.declared.Trimmed.{Trimmed}
use Rattle.text_utf8.specs.declared.Trimmed.TheVariants.{NotUtf8, Blank, Kept}
use Rattle.tables.specs.Numbers.{none, text_limit}
use Rattle.tables.specs.declared.Counts.{Counts}
use Rattle.tables.specs.Columns.{tree_stride, node_stride, property_stride, value_stride}
use Rattle.tables.specs.Memory.{Memory}
use Rattle.fit_nodes.specs.Nodes.{nodes_fit}
use Rattle.fit_spans.specs.Ranges.{ranges_fit}
use Rattle.fit_spans.specs.Spans.{spans_fit}

-- counts and used length are within what is lent; no node has the number that means none (SCOPE 16)
abbrev pub lent_for : Memory → Bool
lent_for m =
    leb m.used (length m.text)
    && leb m.counts.trees (length m.trees / tree_stride)
    && leb m.counts.nodes (length m.nodes / node_stride)
    && leb m.counts.nodes none
    && leb m.counts.properties (length m.properties / property_stride)
    && leb m.counts.values (length m.values / value_stride)

-- trimming finds no bad sequence
abbrev pub sound : Trimmed → Bool
sound (NotUtf8 p) = false
sound Blank = true
sound (Kept f l) = true

-- the text is valid UTF-8 (SCOPE 17)
abbrev pub valid_utf8 : List ℕ → Bool
valid_utf8 t = sound (trimmed t)

-- of a text that is used whole: it is valid UTF-8 within the limit, and nodes, ranges and spans fit (SCOPE 17)
unfoldable pub fit_text : List ℕ → Counts → (tr nd pr vl : List ℕ) → Bool
fit_text t c tr nd pr vl =
    leb (length t) text_limit
    && valid_utf8 t
    && nodes_fit c tr nd
    && ranges_fit c nd pr
    && spans_fit t c pr vl

-- of lent memory: the first `used` bytes of the text, and tables of these counts (SCOPE 50)
unfoldable pub Fit : Memory → Bool
Fit m = lent_for m && fit_text (take m.used m.text) m.counts m.trees m.nodes m.properties m.values
