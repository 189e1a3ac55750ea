pub mod WhyInC
