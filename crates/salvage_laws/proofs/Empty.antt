-- Where the list is empty: of a text that is its own, and of the result of a salvage. Assumes nothing.
use Rattle.lists.proofs.Prelude.{◌≡◌, ℕ, ◌≤◌, List, [], map, length}
use Rattle.lists.specs.All.{All}
use Rattle.tables.specs.Numbers.{depth_limit, text_limit}
use Rattle.tables.specs.Record.{Tree, all_nodes, all_props}
use Rattle.parser.specs.Read.{accepted, read_strict, read_lenient}
use Rattle.serialize.specs.Form.{form_tree, writing}
use Rattle.serialize_laws.proofs.Normal.{normal-form}
use Rattle.serialize_laws.proofs.ReadBack.{Back, Form}
use Rattle.serialize_laws.proofs.Sounding.{writable}
use Rattle.serialize_laws.proofs.Theorem.{named-nodes, named-trees}
use Rattle.serialize_laws.specs.Back.{BeginsAll, Named}
use Rattle.serialize_laws.specs.Depth.{depth_of}
use Rattle.salvage_mend.specs.Mend.{mended}
use Rattle.salvage_list.specs.Listed.{changes_of}
use Rattle.salvage_laws.specs.Tail.{NoTail}
use Rattle.salvage_laws.proofs.Own.{sound-own}
use Rattle.salvage_laws.proofs.Silent.{own-silent}
use Rattle.salvage_laws.proofs.Tailless.{written-no-tail}
use Rattle.salvage_laws.proofs.Theorem.{form, back, own}

-- a strictly accepted text, whose trees each begin with `(`, whose raw identifiers are non-empty and uppercase, and which has nothing behind its last tree
pub own-list : (t : List ℕ) (ts : List Tree) → read_strict t ≡ accepted ts → BeginsAll t → All Named (all_props (all_nodes ts)) → NoTail t → changes_of t ≡ []
own-list t ts h b nm n =
    let f : Form ts = writable t ts h b (named-trees ts (named-nodes (all_nodes ts) nm)) in
    own-silent t ts h (sound-own 0 ts f.sound f.plain) n

-- the result of a salvage, within the limits
pub twice-list : (t : List ℕ) (ts : List Tree) → read_lenient t ≡ accepted ts → length (writing (mended ts)) ≤ text_limit → depth_of (writing (mended ts)) ≤ depth_limit → changes_of (writing (mended ts)) ≡ []
twice-list t ts h s d =
    let k : Back (map form_tree (mended ts)) = back t ts h s d in
    own-silent (writing (mended ts)) k.again k.accepts (own t ts h s d)
    (written-no-tail (map form_tree (mended ts)) k.again (normal-form (mended ts) (form t ts h s)) k.accepts)
