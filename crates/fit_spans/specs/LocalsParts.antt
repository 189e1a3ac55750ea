-- Fitting, ranges and spans together, whatever is lent.
use Rattle.std.specs.Prelude.{◌/◌, ◌&&◌}
use Rattle.lists.specs.Prelude.{ℕ, Bool, List, leb, length}
use Rattle.tables.specs.Numbers.{text_limit}
use Rattle.tables.specs.declared.Counts.{Counts}
use Rattle.tables.specs.Columns.{node_stride, property_stride, value_stride}
use Rattle.fit_spans.specs.Ranges.{ranges_fit}
use Rattle.fit_spans.specs.Spans.{spans_fit}

-- the text is within the limit, and so many nodes, properties and values are lent
abbrev pub lent_parts : List ℕ → Counts → (nd pr vl : List ℕ) → Bool
lent_parts t c nd pr vl =
    leb (length t) text_limit
    && leb c.nodes (length nd / node_stride)
    && leb c.properties (length pr / property_stride)
    && leb c.values (length vl / value_stride)

-- they are, and ranges and spans fit
unfoldable pub parts_fit : List ℕ → Counts → (nd pr vl : List ℕ) → Bool
parts_fit t c nd pr vl = lent_parts t c nd pr vl && ranges_fit c nd pr && spans_fit t c pr vl
