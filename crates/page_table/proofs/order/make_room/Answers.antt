use Rattle.page_table.proofs.Base.{◌≡◌, ◌∙◌, ◌<◌, ℕ, List, length, slice_index_or, sym, ap, subst, arith, rules, filter_same, groups_in}
use Rattle.page_table.proofs.order.make_room.Goals as goal
use Rattle.page_table.proofs.Ending.{groups-below, groups-apart, groups-again}
use Rattle.page_table.proofs.order.make_room.Goals.{After-deref}

left : (c : After-deref) → c.retain.new.self.items ≡ groups_in c.args.slots.now.items
left c = filter_same _ _ _ (λ x b f' k. search rules) _ _ c.retain.ensures.filtered

lent : (c : After-deref) → c.deref.result.now ≡ groups_in c.args.slots.now.items
lent c = c.deref.ensures.value ∙ left c

pub number_all-requires : goal.number_all-requires
number_all-requires c = rw (lent (goal.at.number_all-requires c).After-deref) record {
  there = groups-below c.args.slots.now.items c.args.slot_of.now c.requires.numbered;
  apart = groups-apart c.args.slots.now.items c.args.slot_of.now c.requires.numbered;
  few = omega (arith, c.requires.room, c.requires.few);
}

below : (c : After-deref) (i : ℕ) → i < length (groups_in c.args.slots.now.items) → slice_index_or (groups_in c.args.slots.now.items) i 0 < length c.args.slot_of.now
below c i less = groups-below c.args.slots.now.items c.args.slot_of.now c.requires.numbered i 0 less

pub returns-clause-numbered : goal.returns-clause-numbered
returns-clause-numbered c =
    let d = (goal.at.returns-clause-numbered c).After-deref in
    record {
      below = λ i less. let old = below d i (subst (λ (l : List ℕ). i < length l) (left d) less) in let same = ap (λ (l : List ℕ). slice_index_or l i 0) (left d) in omega (arith, old, same, c.number_all.ensures.frames);
      numbered = λ i less above.
          let same = c.deref.ensures.value in
          ap (λ (l : List ℕ). slice_index_or c.number_all.new.slot_of (slice_index_or l i 0) 0) (sym same) ∙ c.number_all.ensures.numbered i (subst (λ (l : List ℕ). i < length l) (sym same) less);
    }

pub returns-clause-listed : goal.returns-clause-listed
returns-clause-listed c = ap groups_in (left (goal.at.returns-clause-listed c).After-deref) ∙ groups-again c.args.slots.now.items

pub returns-clause-room : goal.returns-clause-room
returns-clause-room c = omega (arith, ap length (left (goal.at.returns-clause-room c).After-deref), c.requires.room, c.number_all.ensures.frames)
