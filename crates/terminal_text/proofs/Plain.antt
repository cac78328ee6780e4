-- Characters that stand for themselves on a terminal, and texts of them.
use Rattle.std.proofs.Common.{arith, ◌≡◌, ℕ, suc, ◌<◌, ◌≤◌, Bool, true, false, cond, nat_lt, List, [], ◌∷◌, ◌++◌, refl, ap, ◌∙◌}
use Rattle.std.specs.Prelude.{All, ◌||◌, encode_utf8_all}
use Rattle.std.specs.Char.{encode_utf8}
use Rattle.std.specs.Char.Escape.{escape_unicode, hex_digit_at}
use Rattle.std.proofs.lemmas.Bool.Decides.{nat_tests}
use Rattle.std.proofs.lemmas.Str.{encodes-append}
use Rattle.std.proofs.lemmas.List.{append_assoc, append-nil}
use Rattle.std.proofs.Math.Path.{subst}
use Rattle.std.proofs.lemmas.List.Elements.{All-cons, All-push}
use Rattle.std.proofs.lemmas.List.Sums.{AllPass-from_list_all}
use Rattle.terminal_text.specs.Plain.{IsPlain, IsPlainText, steering_ranges}

-- a range lies below the characters of ASCII that print, or above them
abbrev is_beside : ℕ × ℕ → Bool
is_beside range = nat_lt range.1 32 || nat_lt 126 range.0

-- a character of ASCII that prints stands for itself
pub printable : (c : ℕ) → 32 ≤ c → c < 127 → IsPlain c
printable c low high (k, range, within, at, between) =
    let beside = AllPass-from_list_all is_beside steering_ranges refl k range within in
    let its : is_beside range ≡ true = rw (← at) beside in
    grind (arith, nat_tests)

-- so does a hex digit
digit_plain : (p c : ℕ) → IsPlain (hex_digit_at p c)
digit_plain p c = printable (hex_digit_at p c) (grind (arith, nat_tests)) (grind (arith, nat_tests))

none_plain : All IsPlain []
none_plain k d within = absurd (omega (arith, within))

either_plain : (test : Bool) (xs ys : List ℕ) → All IsPlain xs → All IsPlain ys → All IsPlain (cond test xs ys)
either_plain true xs ys first second = first
either_plain false xs ys first second = second

-- an escape, from its digits on
abbrev escaped : List ℕ → List ℕ
escaped digits = 92 ∷ 117 ∷ 123 ∷ digits

-- an escape is plain
escape_begins : (digits : List ℕ) → All IsPlain digits → All IsPlain (escaped digits)
escape_begins digits them =
    All-cons IsPlain 92 (117 ∷ 123 ∷ digits) (printable 92 (omega arith) (omega arith))
    (All-cons IsPlain 117 (123 ∷ digits) (printable 117 (omega arith) (omega arith))
    (All-cons IsPlain 123 digits (printable 123 (omega arith) (omega arith)) them))

digit_more : (c p : ℕ) (digits : List ℕ) → All IsPlain digits → All IsPlain (hex_digit_at p c ∷ digits)
digit_more c p digits = All-cons IsPlain (hex_digit_at p c) digits (digit_plain p c)

-- the last digits of an escape
abbrev digits1 : ℕ → List ℕ
digits1 c = hex_digit_at 0x1 c ∷ 125 ∷ []

abbrev digits2 : ℕ → List ℕ
digits2 c = hex_digit_at 0x10 c ∷ digits1 c

abbrev digits3 : ℕ → List ℕ
digits3 c = hex_digit_at 0x100 c ∷ digits2 c

abbrev digits4 : ℕ → List ℕ
digits4 c = hex_digit_at 0x1000 c ∷ digits3 c

abbrev digits5 : ℕ → List ℕ
digits5 c = hex_digit_at 0x1_0000 c ∷ digits4 c

abbrev digits6 : ℕ → List ℕ
digits6 c = hex_digit_at 0x10_0000 c ∷ digits5 c

pub escape_plain : (c : ℕ) → All IsPlain (escape_unicode c)
escape_plain c =
    let none = All-cons IsPlain 125 [] (printable 125 (omega arith) (omega arith)) none_plain in
    let d1 = digit_more c 0x1 (125 ∷ []) none in
    let d2 = digit_more c 0x10 (digits1 c) d1 in
    let d3 = digit_more c 0x100 (digits2 c) d2 in
    let d4 = digit_more c 0x1000 (digits3 c) d3 in
    let d5 = digit_more c 0x1_0000 (digits4 c) d4 in
    let d6 = digit_more c 0x10_0000 (digits5 c) d5 in
    let e1 = escape_begins (digits1 c) d1 in
    let e2 = escape_begins (digits2 c) d2 in
    let e3 = escape_begins (digits3 c) d3 in
    let e4 = escape_begins (digits4 c) d4 in
    let e5 = escape_begins (digits5 c) d5 in
    let e6 = escape_begins (digits6 c) d6 in
    let from5 = either_plain (nat_lt c 0x10_0000) (escaped (digits5 c)) (escaped (digits6 c)) e5 e6 in
    let from4 = either_plain (nat_lt c 0x1_0000) (escaped (digits4 c)) (cond (nat_lt c 0x10_0000) (escaped (digits5 c)) (escaped (digits6 c))) e4 from5 in
    let from3 = either_plain (nat_lt c 0x1000) (escaped (digits3 c)) (cond (nat_lt c 0x1_0000) (escaped (digits4 c)) (cond (nat_lt c 0x10_0000) (escaped (digits5 c)) (escaped (digits6 c)))) e3 from4 in
    let from2 = either_plain (nat_lt c 0x100) (escaped (digits2 c)) (cond (nat_lt c 0x1000) (escaped (digits3 c)) (cond (nat_lt c 0x1_0000) (escaped (digits4 c)) (cond (nat_lt c 0x10_0000) (escaped (digits5 c)) (escaped (digits6 c))))) e2 from3 in
    either_plain (nat_lt c 0x10) (escaped (digits1 c)) (cond (nat_lt c 0x100) (escaped (digits2 c)) (cond (nat_lt c 0x1000) (escaped (digits3 c)) (cond (nat_lt c 0x1_0000) (escaped (digits4 c)) (cond (nat_lt c 0x10_0000) (escaped (digits5 c)) (escaped (digits6 c)))))) e1 from2

-- the first of plain characters is plain, and so are the others
pub first_plain : (whole : List ℕ) (c : ℕ) (others : List ℕ) → whole ≡ c ∷ others → All IsPlain whole → IsPlain c × All IsPlain others
first_plain whole c others e them =
    let these : All IsPlain (c ∷ others) = subst (λ (list : List ℕ). All IsPlain list) e them in
    (these 0 c (omega arith), λ k d within. these (suc k) d (omega (arith, within)))

-- what is added to a plain text is plain
pub plain_pushed : (bytes : List ℕ) (c : ℕ) → IsPlainText bytes → IsPlain c → IsPlainText (bytes ++ encode_utf8 c)
plain_pushed bytes c (characters, encoded, plain) is =
    let whole : encode_utf8_all (characters ++ c ∷ []) ≡ bytes ++ encode_utf8 c =
    encodes-append characters (c ∷ []) ∙ ap (λ (front : List ℕ). front ++ encode_utf8_all (c ∷ [])) encoded
    ∙ ap (λ (end : List ℕ). bytes ++ end) (append-nil (encode_utf8 c)) in
    (characters ++ c ∷ [], whole, All-push IsPlain characters c plain is)

-- two dots are plain
pub plain_dotted : (bytes : List ℕ) → IsPlainText bytes → IsPlainText (bytes ++ 46 ∷ 46 ∷ [])
unfolding encode_utf8
plain_dotted bytes plain =
    let dot = printable 46 (omega arith) (omega arith) in
    let one = plain_pushed bytes 46 plain dot in
    let two = plain_pushed (bytes ++ encode_utf8 46) 46 one dot in
    subst IsPlainText (append_assoc bytes (46 ∷ []) (46 ∷ [])) two

-- nothing is plain
pub nothing_plain : IsPlainText []
nothing_plain = ([], refl, none_plain)
