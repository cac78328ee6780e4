-- What writes that follow each other leave.
use Rattle.std.proofs.Common.{◌<◌, ℕ, List, [], ◌∷◌, ◌++◌, Option, Some, None, Result, Ok, Err, OnErr, ◌+◌, get_or, refl, sym, ap, ◌∙◌, append_assoc, append-nil, length, take, drop, take-append-drop}
use Rattle.std.proofs.lemmas.List.{take_more}
use Rattle.std.specs.Io.KnownBytes.{Appends, Keeps, WriteAppends}
use Rattle.ksm_counters.specs.Lines.{AppendsBeginning}

-- what holds in any case holds where an error comes
pub on_err : {A E : Type 0} {P : Type 0} (r : Result A E) → P → OnErr r P
on_err (Ok x) p = tt
on_err (Err e) p = p

pub Keeps-refl : (a : Option (List ℕ)) → Keeps a a
Keeps-refl None = tt
Keeps-refl (Some xs) = refl

pub Keeps-trans : (a b c : Option (List ℕ)) → Keeps a b → Keeps b c → Keeps a c
Keeps-trans None b c p q = tt
Keeps-trans (Some xs) None c p q = absurd p
Keeps-trans (Some xs) (Some ys) None p q = absurd q
Keeps-trans (Some xs) (Some ys) (Some zs) p q = q ∙ p

pub Appends-kept : (a b c : Option (List ℕ)) (xs : List ℕ) → Appends a b xs → Keeps b c → Appends a c xs
Appends-kept None b c xs p q = tt
Appends-kept (Some known) None c xs p q = absurd p
Appends-kept (Some known) (Some more) None xs p q = absurd q
Appends-kept (Some known) (Some more) (Some all) xs p q = q ∙ p

pub kept-Appends : (a b c : Option (List ℕ)) (xs : List ℕ) → Keeps a b → Appends b c xs → Appends a c xs
kept-Appends None b c xs p q = tt
kept-Appends (Some known) None c xs p q = absurd p
kept-Appends (Some known) (Some more) None xs p q = absurd q
kept-Appends (Some known) (Some more) (Some all) xs p q = q ∙ ap (λ ys. ys ++ xs) p

-- a write after interrupted ones
pub WriteAppends-after : {E : Type 0} (a b c : Option (List ℕ)) (r : Result ℕ E) (xs : List ℕ) → Keeps a b → WriteAppends b c r xs → WriteAppends a c r xs
WriteAppends-after a b c (Ok n) xs p q = kept-Appends a b c (take n xs) p q
WriteAppends-after a b c (Err e) xs p q = Keeps-trans a b c p q

pub Appends-none : (a : Option (List ℕ)) → Appends a a []
Appends-none None = tt
Appends-none (Some xs) = sym (append-nil xs)

pub Appends-join : (a b c : Option (List ℕ)) (xs ys : List ℕ) → Appends a b xs → Appends b c ys → Appends a c (xs ++ ys)
Appends-join None b c xs ys p q = tt
Appends-join (Some known) None c xs ys p q = absurd p
Appends-join (Some known) (Some more) None xs ys p q = absurd q
Appends-join (Some known) (Some more) (Some all) xs ys p q = q ∙ ap (λ zs. zs ++ ys) p ∙ append_assoc known xs ys

-- where the bytes so far were written and one is left, what was written is a beginning
pub begun-so_far : (a b : Option (List ℕ)) (n : ℕ) (text : List ℕ) → n < length text → Appends a b (take n text) → AppendsBeginning a b text
begun-so_far a b n text short p =
    let missing = drop (n + 1) text in (
      take n text,
      get_or text n 0,
      missing,
      sym (take-append-drop (n + 1) text) ∙ ap (λ ys. ys ++ missing) (take_more text n 0 short) ∙ append_assoc (take n text) (get_or text n 0 ∷ []) missing,
      p,
    )

-- a beginning after a text that was written
pub begun-after : (a b c : Option (List ℕ)) (xs ys : List ℕ) → Appends a b xs → AppendsBeginning b c ys → AppendsBeginning a c (xs ++ ys)
begun-after a b c xs ys p q =
    (xs ++ q.0, q.1, q.2, ap (λ zs. xs ++ zs) q.3 ∙ sym (append_assoc xs q.0 (q.1 ∷ q.2)), Appends-join a b c xs q.0 p q.4)

-- a beginning of a text is one of it and more
pub begun-before : (a b : Option (List ℕ)) (xs ys : List ℕ) → AppendsBeginning a b xs → AppendsBeginning a b (xs ++ ys)
begun-before a b xs ys q =
    (q.0, q.1, q.2 ++ ys, ap (λ zs. zs ++ ys) q.3 ∙ append_assoc q.0 (q.1 ∷ q.2) ys, q.4)
