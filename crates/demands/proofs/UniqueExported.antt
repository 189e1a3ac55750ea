-- No second answer: of each public function, two answers that meet its contract are equal. Assumes nothing.
use Rattle.lists.proofs.Prelude.{◌≡◌, sym, ◌∙◌, ℕ, Bool, List}
use Rattle.parser.specs.Read.{Answer}
use Rattle.reader.specs.Lent.{Lent}
use Rattle.lists.proofs.Once.{once_is}
use Rattle.lists.specs.Once.{Once}
use Rattle.tables.specs.Memory.{Memory}
use Rattle.value_display.specs.declared.Kind.{Kind}
use Rattle.sgf.specs.AskInC.{fits_in_c, DisplayInC, RawInC}
use Rattle.sgf.specs.EscapeInC.{EscapeInC}
use Rattle.sgf.specs.ChangeInC.{WriteInC, EditInC}
use Rattle.serialize.specs.Form.{written_length}
use Rattle.c_answers.specs.Structs.{writing_in_c}
use Rattle.c_version.specs.Version.{version}
use Rattle.c_answers.specs.declared.SgfDisplay.{SgfDisplay}
use Rattle.c_answers.specs.declared.SgfEdit.{SgfEdit}
use Rattle.c_answers.specs.declared.SgfWriting.{SgfWriting}
use Rattle.sgf.specs.ReadInC.{ReadInC}
use Rattle.c_answers.specs.declared.SgfReading.{SgfReading}

-- c_version, and sgf_version by it
pub version-once : Once (λ (n : ℕ). n ≡ version)
version-once = once_is version

-- sgf

-- all of the answer, and all lent tables: of sgf_read_strict and sgf_read_lenient
pub read-once : (i : ℕ) (a : Answer) (before x y : Lent) (r s : SgfReading) → ReadInC i a before x r → ReadInC i a before y s → (r ≡ s) × (x ≡ y)
read-once i a before x y r s p q = (p.is ∙ sym q.is, p.tables ∙ sym q.tables)

-- said by one equation
pub fits-once : (x : Bool) → Once (λ (n : ℕ). n ≡ fits_in_c x)
fits-once x = once_is (fits_in_c x)

-- the answer and the bytes lent
pub display-once : (m : Memory) (k : ℕ) (kind : Kind) (out x y : List ℕ) (r s : SgfDisplay) → DisplayInC m k kind out x r → DisplayInC m k kind out y s → (r ≡ s) × (x ≡ y)
display-once m k kind out x y r s p q = (p.is ∙ sym q.is, p.bytes ∙ sym q.bytes)

-- of one raw value
pub display-value-once : (kind : Kind) (raw out x y : List ℕ) (r s : SgfDisplay) → RawInC kind raw out x r → RawInC kind raw out y s → (r ≡ s) × (x ≡ y)
display-value-once kind raw out x y r s p q = (p.is ∙ sym q.is, p.bytes ∙ sym q.bytes)

-- of plain text escaped
pub escape-once : (text out x y : List ℕ) (r s : SgfDisplay) → EscapeInC text out x r → EscapeInC text out y s → (r ≡ s) × (x ≡ y)
escape-once text out x y r s p q = (p.is ∙ sym q.is, p.bytes ∙ sym q.bytes)

pub write-once : (m : Memory) (out x y : List ℕ) (r s : SgfWriting) → WriteInC m out x r → WriteInC m out y s → (r ≡ s) × (x ≡ y)
write-once m out x y r s p q = (p.is ∙ sym q.is, p.bytes ∙ sym q.bytes)

-- of sgf_write_length
pub write-length-once : (m : Memory) → Once (λ (r : SgfWriting). r ≡ writing_in_c (written_length m))
write-length-once m = once_is (writing_in_c (written_length m))

-- the answer, and all lent memory
pub edit-once : (m x y : Memory) (k : ℕ) (new : List ℕ) (r s : SgfEdit) → EditInC m x k new r → EditInC m y k new s → (r ≡ s) × (x ≡ y)
edit-once m x y k new r s p q = (p.is ∙ sym q.is, p.memory ∙ sym q.memory)
