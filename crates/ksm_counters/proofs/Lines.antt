-- The text of some lines, one line after another.
use Rattle.std.proofs.Common.{◌≡◌, ◌<◌, ◌+◌, ℕ, List, [], ◌∷◌, ◌++◌, Option, codes, decimal, get_or, refl, sym, ap, ◌∙◌, subst, append_assoc, append-nil, length, take, drop, take-append-drop}
use Rattle.std.proofs.lemmas.List.{take_more}
use Rattle.std.specs.Io.KnownBytes.{Appends}
use Rattle.ksm_counters.specs.Counters.{line_before}
use Rattle.ksm_counters.specs.Lines.{AppendsBeginning, lines_text}
use Rattle.ksm_counters.specs.declared.line.Line.{Line}
use Rattle.ksm_counters.proofs.Written.{Appends-join, begun-after, begun-before}

line-and_more : (name : List ℕ) (value : ℕ) (rest : List ℕ) → line_before name value rest ≡ line_before name value [] ++ rest
line-and_more name value rest = sym (append_assoc (name ++ codes " " ++ decimal value) (10 ∷ []) rest)

lines-none : lines_text [] ≡ []
unfolding lines_text
lines-none = refl

lines-first : (line : Line) (lines : List Line) → lines_text (line ∷ lines) ≡ line_before line.name.now line.value [] ++ lines_text lines
unfolding lines_text
lines-first line lines = line-and_more line.name.now line.value (lines_text lines)

lines-join : (xs ys : List Line) → lines_text (xs ++ ys) ≡ lines_text xs ++ lines_text ys
lines-join [] ys = sym (ap (λ text. text ++ lines_text ys) lines-none)
lines-join (x ∷ xs) ys =
    lines-first x (xs ++ ys) ∙ ap (λ text. line_before x.name.now x.value [] ++ text) (lines-join xs ys)
    ∙ sym (ap (λ text. text ++ lines_text ys) (lines-first x xs) ∙ append_assoc (line_before x.name.now x.value []) (lines_text xs) (lines_text ys))

lines-more : (lines : List Line) (i : ℕ) (d : Line) → i < length lines
    → lines_text (take (i + 1) lines) ≡ lines_text (take i lines) ++ line_before (get_or lines i d).name.now (get_or lines i d).value []
lines-more lines i d short =
    let line = get_or lines i d in
    ap lines_text (take_more lines i d short) ∙ lines-join (take i lines) (line ∷ [])
    ∙ ap (λ text. lines_text (take i lines) ++ text)
    (lines-first line [] ∙ ap (λ text. line_before line.name.now line.value [] ++ text) lines-none ∙ append-nil (line_before line.name.now line.value []))

-- no line is written yet
pub begun-none : (a : Option (List ℕ)) (lines : List Line) → Appends a a [] → Appends a a (lines_text (take 0 lines))
begun-none a lines p = subst (Appends a a) (sym lines-none) p

-- one more line is written
pub begun-more : (a b c : Option (List ℕ)) (lines : List Line) (i : ℕ) (d : Line) → i < length lines → Appends a b (lines_text (take i lines))
    → Appends b c (line_before (get_or lines i d).name.now (get_or lines i d).value []) → Appends a c (lines_text (take (i + 1) lines))
begun-more a b c lines i d short p q =
    let line = get_or lines i d in
    subst (Appends a c) (sym (lines-more lines i d short)) (Appends-join a b c (lines_text (take i lines)) (line_before line.name.now line.value []) p q)

-- of the next line a beginning is written
pub begun-within : (a b c : Option (List ℕ)) (lines : List Line) (i : ℕ) (d : Line) → i < length lines → Appends a b (lines_text (take i lines))
    → AppendsBeginning b c (line_before (get_or lines i d).name.now (get_or lines i d).value []) → AppendsBeginning a c (lines_text lines)
begun-within a b c lines i d short p q =
    let line = get_or lines i d in
    let text = line_before line.name.now line.value [] in
    let more = lines_text (drop (i + 1) lines) in
    subst (AppendsBeginning a c)
    (ap (λ front. front ++ more) (sym (lines-more lines i d short)) ∙ sym (lines-join (take (i + 1) lines) (drop (i + 1) lines)) ∙ ap lines_text (take-append-drop (i + 1) lines))
    (begun-before a c (lines_text (take i lines) ++ text) more (begun-after a b c (lines_text (take i lines)) text p q))
