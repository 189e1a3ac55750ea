-- No second answer: of each public function, two answers that meet its contract are equal. Assumes nothing.
use Rattle.lists.proofs.Prelude.{◌≡◌, sym, ◌∙◌, ℕ}
use Rattle.text_utf8.specs.declared.Trimmed.{Trimmed}
use Rattle.text_utf8.specs.declared.Trimmed.TheVariants.{NotUtf8, Blank, Kept}
use Rattle.lexer.specs.declared.Step.{Step}
use Rattle.lexer.specs.declared.Step.TheVariants.{Start, End, Node, Property, Refused, Done}
use Rattle.lexer_scan.specs.declared.ValueStep.{ValueStep}
use Rattle.lexer_scan.specs.declared.ValueStep.TheVariants.{Value, NoMore, Unclosed}
use Rattle.c_tokens.specs.Tokens.{TrimIs, TokenIs, ValueIs}
use Rattle.lists.proofs.Once.{once_is}
use Rattle.lists.specs.Once.{Once}
use Rattle.tables.specs.declared.Counts.{Counts}
use Rattle.go.specs.declared.value.GoValue.{GoValue}
use Rattle.ask.specs.Ask.{display_for}
use Rattle.tables.specs.Lenient.{as_reading}
use Rattle.c_answers.specs.Structs.{reading_in_c, span_in_c, display_in_c, go_in_c, writing_in_c, edit_in_c}
use Rattle.c_answers.specs.declared.SgfDisplay.{SgfDisplay}
use Rattle.c_answers.specs.declared.SgfEdit.{SgfEdit}
use Rattle.c_answers.specs.declared.SgfGoValue.{SgfGoValue}
use Rattle.c_answers.specs.declared.SgfReading.{SgfReading}
use Rattle.c_answers.specs.declared.SgfSpan.{SgfSpan}
use Rattle.c_answers.specs.declared.SgfWriting.{SgfWriting}
use Rattle.std.specs.Prelude.{Option, Result}
use Rattle.tables.specs.declared.LenientRefusal.{LenientRefusal}
use Rattle.tables.specs.declared.Reason.{Reason}
use Rattle.tables.specs.declared.Refusal.{Refusal}

-- c_tokens

four : {a b c d n p f l n' p' f' l' : ℕ} → (n ≡ a) × (p ≡ b) × (f ≡ c) × (l ≡ d) → (n' ≡ a) × (p' ≡ b) × (f' ≡ c) × (l' ≡ d) → (n ≡ n') × (p ≡ p') × (f ≡ f') × (l ≡ l')
four x y = (x.0 ∙ sym y.0, x.1 ∙ sym y.1, x.2 ∙ sym y.2, x.3 ∙ sym y.3)

five : {a b c d e k n f o t k' n' f' o' t' : ℕ} → (k ≡ a) × (n ≡ b) × (f ≡ c) × (o ≡ d) × (t ≡ e) → (k' ≡ a) × (n' ≡ b) × (f' ≡ c) × (o' ≡ d) × (t' ≡ e)
    → (k ≡ k') × (n ≡ n') × (f ≡ f') × (o ≡ o') × (t ≡ t')
five x y = (x.0 ∙ sym y.0, x.1 ∙ sym y.1, x.2 ∙ sym y.2, x.3 ∙ sym y.3, x.4 ∙ sym y.4)

pub trim-once : (x : Trimmed) {n p f l n' p' f' l' : ℕ} → TrimIs x n p f l → TrimIs x n' p' f' l' → (n ≡ n') × (p ≡ p') × (f ≡ f') × (l ≡ l')
trim-once (NotUtf8 q) x y = four x y
trim-once Blank x y = four x y
trim-once (Kept a e) x y = four x y

pub token-once : (at : ℕ) (s : Step) {k n f o t k' n' f' o' t' : ℕ} → TokenIs at s k n f o t → TokenIs at s k' n' f' o' t' → (k ≡ k') × (n ≡ n') × (f ≡ f') × (o ≡ o') × (t ≡ t')
token-once at (Start i) x y = five x y
token-once at (End i) x y = five x y
token-once at (Node i) x y = five x y
token-once at (Property i j e) x y = five x y
token-once at (Refused g i) x y = five x y
token-once at Done x y = five x y

pub value-once : (at : ℕ) (v : ValueStep) {k f t n k' f' t' n' : ℕ} → ValueIs at v k f t n → ValueIs at v k' f' t' n' → (k ≡ k') × (f ≡ f') × (t ≡ t') × (n ≡ n')
value-once at (Value a e x) p q = four p q
value-once at NoMore p q = four p q
value-once at Unclosed p q = four p q

-- c_answers

pub reading-once : (i : ℕ) (a : Result Counts (Refusal Reason)) → Once (λ (r : SgfReading). r ≡ reading_in_c i a)
reading-once i a = once_is (reading_in_c i a)

pub lenient-once : (i : ℕ) (l : Result Counts LenientRefusal) → Once (λ (r : SgfReading). r ≡ reading_in_c i (as_reading l))
lenient-once i l = once_is (reading_in_c i (as_reading l))

pub span-once : (a : Result (ℕ × ℕ) Reason) → Once (λ (r : SgfSpan). r ≡ span_in_c a)
span-once a = once_is (span_in_c a)

pub display-once : (a : Result ℕ Reason) → Once (λ (r : SgfDisplay). r ≡ display_in_c a)
display-once a = once_is (display_in_c a)

pub display-value-once : (d : Option ℕ) → Once (λ (r : SgfDisplay). r ≡ display_in_c (display_for d))
display-value-once d = once_is (display_in_c (display_for d))

pub go-once : (n : ℕ) (g : GoValue) → Once (λ (r : SgfGoValue). r ≡ go_in_c n g)
go-once n g = once_is (go_in_c n g)

pub writing-once : (a : Result ℕ Reason) → Once (λ (r : SgfWriting). r ≡ writing_in_c a)
writing-once a = once_is (writing_in_c a)

pub edit-once : (c : Counts) (a : Result ℕ (Refusal Reason)) → Once (λ (r : SgfEdit). r ≡ edit_in_c c a)
edit-once c a = once_is (edit_in_c c a)
