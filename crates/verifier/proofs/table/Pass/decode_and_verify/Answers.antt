use Rattle.std.proofs.Common.{◌≡◌, ◌+◌, ◌++◌, [], ◌∷◌, length, Some, None, inr, sym, ap, ◌∙◌, arith}
use Rattle.bpf_decode.specs.Text.{width_at}
use Rattle.verifier.specs.Flow.{flow}
use Rattle.verifier.specs.Table.{arrived, IsRefusal}
use Rattle.verifier.specs.Successor.{successors_of}
use Rattle.verifier.specs.Wide.{HasNoLawful}
use Rattle.verifier.specs.Pass.{falling, pending_at}
use Rattle.verifier.proofs.Passes.{falls_some, falls_none, known_description, known_refusal, known_incomplete, passed_unreached, passed_flow, passed_few}
use Rattle.verifier.proofs.table.Pass.decode_and_verify.Goals as goal
use Rattle.verifier.proofs.table.Pass.decode_and_verify.Goals.{In-Err}

pub returns-then-not-self-clause-passed : goal.returns-then-not-self-clause-passed
returns-then-not-self-clause-passed c =
    let before = c.args.self.now in
    let after = c.arrive.new.self in
    let p = c.args.candidate.now in
    let put : c.skip.new.self.kept ≡ before.kept ++ None ∷ [] = cc (c.in_ok-skip.ensures.kept, c.arrive.ensures.kept) in
    let none = falls_none after.falls after.current c.if-not-self.true in
    rw (c.in_ok-skip.ensures.pending, c.in_ok-skip.ensures.current, c.in_ok-skip.ensures.falls)
    (passed_unreached p before.kept c.skip.new.self.kept before.pending.items after.pending.items (falling before.falls before.current) (falling after.falls after.current) c.args.slot c.requires.instruction c.requires.passed
    (sym none ∙ c.arrive.ensures.known) none put c.arrive.ensures.len c.arrive.ensures.others)

pub flow_in_place-requires-clause-description : goal.flow_in_place-requires-clause-description
flow_in_place-requires-clause-description c =
    let before = c.args.self.now in
    let after = c.arrive.new.self in
    rw c.in_ok-keep.ensures.current
    (known_description c.args.candidate.now before.kept before.pending.items (falling before.falls before.current) c.args.slot after.current c.requires.instruction c.requires.passed
    (sym (falls_some after.falls after.current c.if-not-self.false) ∙ c.arrive.ensures.known))

-- a rule that the instruction breaks is the text's refusal, and leaves no lawful table
faulty : (c : In-Err) → IsRefusal c.args.candidate.now (record { number = c.in-Err.number; slot = c.args.slot }) × HasNoLawful c.args.candidate.now
faulty c =
    let before = c.args.self.now in
    let after = c.arrive.new.self in
    let p = c.args.candidate.now in
    let known = sym (falls_some after.falls after.current c.if-not-self.false) ∙ c.arrive.ensures.known in
    let broken = ap (flow p c.args.slot) (sym c.in_ok-keep.ensures.current) ∙ sym c.in-Err.ensures.flow in (
      known_refusal p before.kept before.pending.items (falling before.falls before.current) c.args.slot c.in-Err.number after.current c.requires.instruction c.requires.passed known broken,
      known_incomplete p before.kept before.pending.items (falling before.falls before.current) c.args.slot c.in-Err.number after.current c.requires.instruction c.requires.passed known broken,
    )

pub returns-in-Err-clause-refused : goal.returns-in-Err-clause-refused
returns-in-Err-clause-refused c = inr (faulty (goal.at.returns-in-Err-clause-refused c).In-Err).0

pub returns-in-Err-clause-complete : goal.returns-in-Err-clause-complete
returns-in-Err-clause-complete c = inr (faulty (goal.at.returns-in-Err-clause-complete c).In-Err).1

pub returns-clause-passed : goal.returns-clause-passed
returns-clause-passed c =
    let before = c.args.self.now in
    let after = c.arrive.new.self in
    let done = c.follow.new.self in
    let p = c.args.candidate.now in
    let slot = c.args.slot in
    let put : done.kept ≡ before.kept ++ Some after.current.registers ∷ [] = cc (c.in-Ok-follow.ensures.kept, c.in_ok-keep.ensures.kept, c.arrive.ensures.kept) in
    let more : length done.pending.items ≡ length after.pending.items = cc (c.in-Ok-follow.ensures.len, c.in_ok-keep.ensures.pending) in
    passed_flow p before.kept done.kept before.pending.items after.pending.items done.pending.items (falling before.falls before.current) (falling done.falls done.current) slot after.current (successors_of c.in-Ok.successor c.flow_in_place.new.d) c.requires.instruction c.requires.passed
    (sym (falls_some after.falls after.current c.if-not-self.false) ∙ c.arrive.ensures.known)
    (ap (flow p slot) (sym c.in_ok-keep.ensures.current) ∙ sym c.in-Ok.ensures.flow)
    c.in-Ok.ensures.described put c.arrive.ensures.len c.arrive.ensures.others more
    (λ s. c.in-Ok-follow.ensures.arrived (slot + width_at p.text slot) s c.in-Ok.ensures.falls
    ∙ ap (λ pending. arrived s (pending_at pending s) (successors_of c.in-Ok.successor c.flow_in_place.new.d)) (cc (c.in_ok-keep.ensures.pending)))

pub keep-requires : goal.keep-requires
keep-requires c =
    let before = c.args.self.now in
    let few = passed_few c.args.candidate.now before.kept before.pending.items (falling before.falls before.current) c.args.slot c.requires.text c.requires.instruction.within c.requires.passed in
    omega (arith, few, ap length c.arrive.ensures.kept)
