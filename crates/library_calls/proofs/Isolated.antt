-- Isolation of calls, by induction on the calls for the tenant.
use Rattle.std.proofs.Common.{◌≡◌, inl, inr, ℕ, Bool, true, false, if◌then◌else◌, List, [], ◌∷◌, refl, ap, sym, ◌∙◌, subst}
use Rattle.host_core.specs.declared.reply.Reply.{Reply}
use Rattle.host_core.specs.World.{System}
use Rattle.isolation.specs.Tenants.{AgreeOn, GoAlike, seen_by}
use Rattle.library_calls.specs.Isolation.{Call, CallHappens, CallsHappen, CallsAreIsolated, is_call_for, calls_for, answers_for}
use Rattle.library_calls.proofs.Unnoticed.{call_unnoticed}
use Rattle.library_calls.proofs.Together.{call_together}

-- before each call and after the last one other things may have happened, of which the tenant sees nothing
abbrev Chain : ℕ → System → List Call → List Reply → System → Type 0
Chain t x [] [] x' = AgreeOn t x x'
Chain t x (call ∷ calls) (reply ∷ replies) x' =
    (before : System) × ((after : System) × (AgreeOn t x before × (is_call_for t call ≡ true) × CallHappens call reply before after × Chain t after calls replies x'))
Chain t x calls replies x' = ⊥

chain_before : (t : ℕ) (x y : System) (calls : List Call) (replies : List Reply) (x' : System) → AgreeOn t x y → Chain t y calls replies x' → Chain t x calls replies x'
chain_before t x y [] [] x' agree h = agree ∙ h
chain_before t x y (call ∷ calls) (reply ∷ replies) x' agree (before, (after, (h, own, happens, rest))) = (before, (after, (agree ∙ h, own, happens, rest)))
chain_before t x y [] (reply ∷ replies) x' agree h = absurd h
chain_before t x y (call ∷ calls) [] x' agree h = absurd h

chain_more : (t : ℕ) (x next : System) (call : Call) (reply : Reply) (calls : List Call) (replies : List Reply) (x' : System) (own : Bool) → is_call_for t call ≡ own
    → CallHappens call reply x next → Chain t next calls replies x' → Chain t x (if own then call ∷ calls else calls) (if own then reply ∷ replies else replies) x'
chain_more t x next call reply calls replies x' true is happens rest = (x, (next, (refl, is, happens, rest)))
chain_more t x next call reply calls replies x' false is happens rest = chain_before t x next calls replies x' (sym (call_unnoticed t x next call reply is happens)) rest

chain_of : (t : ℕ) (x : System) (calls : List Call) (replies : List Reply) (x' : System) → CallsHappen x calls replies x' → Chain t x (calls_for t calls) (answers_for t calls replies) x'
chain_of t x [] [] x' h = ap (seen_by t) (sym h)
chain_of t x (call ∷ calls) (reply ∷ replies) x' (next, happens, rest) =
    chain_more t x next call reply (calls_for t calls) (answers_for t calls replies) x' (is_call_for t call) refl happens (chain_of t next calls replies x' rest)
chain_of t x [] (reply ∷ replies) x' h = absurd h
chain_of t x (call ∷ calls) [] x' h = absurd h

chains_alike : (t : ℕ) (x y x' y' : System) (calls : List Call) (replies further : List Reply) → AgreeOn t x y → Chain t x calls replies x' → Chain t y calls further y' → GoAlike t replies further x' y'
chains_alike t x y x' y' [] [] [] agree h k = sym h ∙ agree ∙ k
chains_alike t x y x' y' [] (reply ∷ replies) further agree h k = absurd h
chains_alike t x y x' y' [] [] (other ∷ further) agree h k = absurd k
chains_alike t x y x' y' (call ∷ calls) [] further agree h k = absurd h
chains_alike t x y x' y' (call ∷ calls) (reply ∷ replies) [] agree h k = absurd k
chains_alike t x y x' y' (call ∷ calls) (reply ∷ replies) (other ∷ further) agree (before, (after, (a, own, happens, rest))) (earlier, (later, (b, is, also, more))) =
    elim (call_together t call own before earlier after later reply other (sym a ∙ agree ∙ b) happens also) [
      | inl scarce ↦ inl scarce
      | inr (inl scarce) ↦ inr (inl scarce)
      | inr (inr same) ↦ inr (inr (same.0, chains_alike t after later x' y' calls replies further same.1 rest more))
    ]

pub calls_are_isolated : CallsAreIsolated
calls_are_isolated t x y x' y' calls others replies further agree same first second =
    chains_alike t x y x' y' (calls_for t calls) (answers_for t calls replies) (answers_for t others further) agree (chain_of t x calls replies x' first)
    (subst (λ (own : List Call). Chain t y own (answers_for t others further) y') (sym same) (chain_of t y others further y' second))
