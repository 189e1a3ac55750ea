-- Text display: `format_text` and the replacements of `SimpleText`, over bytes of UTF-8.
use Rattle.std.specs.Prelude.{◌&&◌, ◌||◌, ◌∷◌, ◌++◌, Option, Some, None}
use Rattle.lists.specs.Prelude.{ℕ, zero, suc, Bool, List, [], map, leb, eqb, length, get_or, drop, pick}
use Rattle.value_display.specs.declared.Kind.{Kind}
use Rattle.value_display.specs.declared.Kind.TheVariants.{Text, SimpleText}

-- white space of one byte that is no line break: U+0009, 000B, 000C, 0020
abbrev pub blank1 : ℕ → Bool
blank1 a = eqb a 0x9 || (eqb a 0xb || (eqb a 0xc || eqb a 0x20))

-- of two bytes: U+0085, 00A0
abbrev pub blank2 : (a b : ℕ) → Bool
blank2 a b = eqb a 0xc2 && (eqb b 0x85 || eqb b 0xa0)

-- of three bytes: U+1680; 2000 to 200A, 2028, 2029, 202F; 205F; 3000
abbrev pub blank3 : (a b c : ℕ) → Bool
blank3 a b c =
    (eqb a 0xe1 && (eqb b 0x9a && eqb c 0x80))
    || ((eqb a 0xe2 && (eqb b 0x80 && ((leb 0x80 c && leb c 0x8a) || (eqb c 0xa8 || (eqb c 0xa9 || eqb c 0xaf)))))
    || ((eqb a 0xe2 && (eqb b 0x81 && eqb c 0x9f)) || (eqb a 0xe3 && (eqb b 0x80 && eqb c 0x80))))

-- what is shown of the bytes that stand first, and how many bytes more it takes
pub record Item : Type 0 where
  pub shows : List ℕ
  pub more : ℕ

-- these bytes are shown, and n bytes more are taken
abbrev pub item : List ℕ → ℕ → Item
item s n = record { shows = s; more = n }

-- white space becomes a space, but line breaks stay; any other byte is shown
unfoldable pub plain : (a b c : ℕ) → Item
plain a b c = pick (blank1 a) (item (0x20 ∷ []) 0) (pick (blank2 a b) (item (0x20 ∷ []) 1) (pick (blank3 a b c) (item (0x20 ∷ []) 2) (item (a ∷ []) 0)))

-- behind a backslash a line break, with `other` or alone, is removed
unfoldable pub removed : (other : ℕ) → List ℕ → Item
removed other bs = pick (eqb (get_or bs 0 0) other) (item [] 2) (item [] 1)

-- a backslash: the last of all is shown; else it goes, and any character behind it but a line break is shown (SCOPE 124)
unfoldable pub escaped : List ℕ → Item
escaped [] = item (0x5c ∷ []) 0
escaped (b ∷ bs) = pick (eqb b 0xa) (removed 0xd bs) (pick (eqb b 0xd) (removed 0xa bs) (item (b ∷ []) 1))

-- what is shown of the byte b with those behind it: a backslash escapes, any other byte is plain
unfoldable pub item_of : ℕ → List ℕ → Item
item_of b bs = pick (eqb b 0x5c) (escaped bs) (plain b (get_or bs 0 0) (get_or bs 1 0))

-- item by item; the first `taken` bytes belong to the item before
unfoldable pub format_from : (taken : ℕ) → List ℕ → List ℕ
format_from n [] = []
format_from (suc n) (b ∷ bs) = format_from n bs
format_from zero (b ∷ bs) = (item_of b bs).shows ++ format_from (item_of b bs).more bs

-- `format_text` (SCOPE 123)
abbrev pub format_text : List ℕ → List ℕ
format_text bs = format_from 0 bs

-- each pair a, b becomes a space, from the left
unfoldable pub pairs_spaced : (a b : ℕ) → List ℕ → List ℕ
pairs_spaced a b [] = []
pairs_spaced a b (x ∷ []) = x ∷ []
pairs_spaced a b (x ∷ y ∷ zs) = pick (eqb x a && eqb y b) (0x20 ∷ pairs_spaced a b zs) (x ∷ pairs_spaced a b (y ∷ zs))

-- a single line break becomes a space
abbrev pub spaced : ℕ → ℕ
spaced b = pick (eqb b 0xa || eqb b 0xd) 0x20 b

-- the replacements of `SimpleText`: CR LF, then LF CR, then single line breaks (SCOPE 123, 125)
unfoldable pub one_line : List ℕ → List ℕ
one_line bs = map spaced (pairs_spaced 0xa 0xd (pairs_spaced 0xd 0xa bs))

-- what a read value shows (SCOPE 123)
unfoldable pub display_text : Kind → List ℕ → List ℕ
display_text Text bs = format_text bs
display_text SimpleText bs = one_line (format_text bs)

-- the answer to a display of `text` in `out`: its length, or that it has no room
unfoldable pub displayed : (text out : List ℕ) → Option ℕ
displayed text out = pick (leb (length text) (length out)) (Some (length text)) None

-- the lent bytes after it: the text and then what was there, or all that was there (SCOPE 57)
unfoldable pub displayed_in : (text out : List ℕ) → List ℕ
displayed_in text out = pick (leb (length text) (length out)) (text ++ drop (length text) out) out
