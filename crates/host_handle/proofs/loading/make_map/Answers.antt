use Rattle.std.proofs.Common.{◌≡◌, ◌==◌, [], ◌∷◌, take, Bool, true, false, if◌then◌else◌, None, Some, subst, sym, refl, arith}
use Rattle.std.proofs.lemmas.Bool.Decides.{nat_tests}
use Rattle.host_types.specs.declared.event.Event.TheVariants.{CreateMap, HostUpdate}
use Rattle.host_core.specs.declared.reply.Reply.{Reply}
use Rattle.host_core.specs.declared.reply.Reply.TheVariants.{Refused}
use Rattle.host_handle.specs.Answered.{Goes, Serves}
use Rattle.host_handle.specs.Loading.{HappenUpTo}
use Rattle.host_handle.proofs.InOrder.{up_to_one, up_to_refused, up_to_join}
use Rattle.host_handle.proofs.loading.make_map.Goals as goal
use Rattle.host_handle.proofs.loading.make_map.Goals.{After-apply, After-update}

-- the map is made, or refused
created : (c : After-apply) (reply : Reply) → c.apply.result ≡ reply → Goes (Serves (CreateMap c.args.tenant c.args.made.now.shape.value_size c.args.made.now.shape.entries c.args.mergeable) reply) c.args.host.now c.apply.new.self
created c reply is x stands =
    let served = c.apply.ensures x stands in
    rw (← is) (served.0, served.1, (served.2, served.3, served.4))

-- its first value is written, or that is refused
written : (c : After-update) (reply : Reply) → c.update.result ≡ reply → Goes (Serves (HostUpdate c.args.tenant c.args.number 0 (take c.args.made.now.first_len c.args.made.now.first)) reply) c.apply.new.self c.update.new.self
written c reply is x stands =
    let served = c.update.ensures x stands in
    rw (← is) (served.0, served.1, (served.2, served.3, served.4))

pub returns-in-Refused-clause-stopped : goal.returns-in-Refused-clause-stopped
returns-in-Refused-clause-stopped c =
    let at = (goal.at.returns-in-Refused-clause-stopped c).After-apply in
    up_to_refused _ _ c.in-Refused.fault c.args.host.now c.apply.new.self (created at (Refused c.in-Refused.fault) c.in-Refused.is)

pub returns-then-made-eq0 : goal.returns-then-made-eq0
returns-then-made-eq0 c =
    let at = (goal.at.returns-then-made-eq0 c).After-apply in
    let create = CreateMap c.args.tenant c.args.made.now.shape.value_size c.args.made.now.shape.entries c.args.mergeable in
    let value = HostUpdate c.args.tenant c.args.number 0 (take c.args.made.now.first_len c.args.made.now.first) in
    let none : (c.args.made.now.first_len == 0) ≡ true = rw c.if-made-eq0.true refl in
    let one = up_to_one create c.apply.result c.args.host.now c.apply.new.self (λ fault is. c.in_default.not-Refused fault is) (created at c.apply.result refl) in
    record {
      made = subst (λ (b : Bool). HappenUpTo (create ∷ (if b then [] else value ∷ [])) None c.args.host.now c.apply.new.self) (sym none) one;
      stopped = tt;
    }

pub returns-in-Refused-update : goal.returns-in-Refused-update
returns-in-Refused-update c =
    let at = (goal.at.returns-in-Refused-update c).After-apply in
    let later = (goal.at.returns-in-Refused-update c).After-update in
    let create = CreateMap c.args.tenant c.args.made.now.shape.value_size c.args.made.now.shape.entries c.args.mergeable in
    let value = HostUpdate c.args.tenant c.args.number 0 (take c.args.made.now.first_len c.args.made.now.first) in
    let some : (c.args.made.now.first_len == 0) ≡ false = grind (arith, nat_tests, c.if-made-eq0.false) in
    let one = up_to_one create c.apply.result c.args.host.now c.apply.new.self (λ fault is. c.in_default.not-Refused fault is) (created at c.apply.result refl) in
    let two = up_to_join (create ∷ []) (value ∷ []) (Some c.in-Refused-update.fault) c.args.host.now c.apply.new.self c.update.new.self one
    (up_to_refused value [] c.in-Refused-update.fault c.apply.new.self c.update.new.self (written later (Refused c.in-Refused-update.fault) c.in-Refused-update.is)) in
    record {
      made = tt;
      stopped = subst (λ (b : Bool). HappenUpTo (create ∷ (if b then [] else value ∷ [])) (Some c.in-Refused-update.fault) c.args.host.now c.update.new.self) (sym some) two;
    }

pub returns : goal.returns
returns c =
    let at = (goal.at.returns c).After-apply in
    let later = (goal.at.returns c).After-update in
    let create = CreateMap c.args.tenant c.args.made.now.shape.value_size c.args.made.now.shape.entries c.args.mergeable in
    let value = HostUpdate c.args.tenant c.args.number 0 (take c.args.made.now.first_len c.args.made.now.first) in
    let some : (c.args.made.now.first_len == 0) ≡ false = grind (arith, nat_tests, c.if-made-eq0.false) in
    let one = up_to_one create c.apply.result c.args.host.now c.apply.new.self (λ fault is. c.in_default.not-Refused fault is) (created at c.apply.result refl) in
    let two = up_to_join (create ∷ []) (value ∷ []) None c.args.host.now c.apply.new.self c.update.new.self one
    (up_to_one value c.update.result c.apply.new.self c.update.new.self (λ fault is. c.in_default-update.not-Refused fault is) (written later c.update.result refl)) in
    record {
      made = subst (λ (b : Bool). HappenUpTo (create ∷ (if b then [] else value ∷ [])) None c.args.host.now c.update.new.self) (sym some) two;
      stopped = tt;
    }
