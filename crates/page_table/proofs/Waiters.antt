-- The pages that wait: what keeps them, and how many there are.
use Rattle.page_table.proofs.Base.{◌≡◌, ◌≢◌, ◌∙◌, is_same, ℕ, ◌<◌, ◌≤◌, ◌==◌, ◌||◌, not, false, List, [], ◌∷◌, ◌++◌, length, map, filter, slice_index_or, slice_set, Option, Some, None, refl, ap, arith, list_any, get_or-set_other, nat_tests, ◌&&◌, Bool, true, if◌then◌else◌, option_map, sym, subst, get_or_default, length-map, get_or_past, is_shared, waiting_without, Waiter, Entry, Pass, TableState, AreOwnKept, AreOthersKept, entry_at, own_pages, waiting_of, forgets, is_listed, IsWaiter, AreWaiters, IsPass, Volatile, Waiting, is_pinned, pinned, broken_for_run, PinsFit, Sharing, state_at, is_shared_page, broken, fit-by, entry_content, contents_of, state_of, states_of, sharing_of}
use Rattle.page_table.proofs.Entries.{inside, own_pages-set, state-at}

-- where each page has its bytes, there are as many indices
pub entries-long : (old new : TableState) → contents_of new ≡ contents_of old → length new.entries ≡ length old.entries
unfolding contents_of
entries-long old new e = sym (length-map new.entries (entry_content new.arena)) ∙ ap length e ∙ length-map old.entries (entry_content old.arena)

-- a page that is reported not to be pinned has an index in the list
pub not-pinned : (pins : List Bool) (i : ℕ) → is_pinned pins i ≡ false → slice_index_or pins i false ≡ false
not-pinned pins i h = grind (arith, get_or_default pins i true false, get_or_past pins i)

-- the pins fit where each page that is pinned stays
pub pins-kept : (old new : TableState) (pass : Pass) → PinsFit (states_of old.entries) pass.pins → length new.entries ≡ length old.entries
    → ((i : ℕ) (entry : Entry) → slice_index_or pass.pins i false ≡ true → entry_at old.entries i ≡ Some entry → entry.status ≡ Volatile → entry_at new.entries i ≡ Some entry)
    → PinsFit (states_of new.entries) pass.pins
pins-kept old new pass fit long stays =
    grind (arith, nat_tests, length-map old.entries (option_map state_of), length-map new.entries (option_map state_of), state-at old pass, state-at new pass)

-- a page that isn't pinned is no pinned one
pub apart-pinned : (pins : List Bool) (i j : ℕ) → slice_index_or pins i false ≡ false → slice_index_or pins j false ≡ true → j ≢ i
apart-pinned pins i j free is same = let here = ap (λ (k : ℕ). slice_index_or pins k false) same in cc

-- a page that waits isn't pinned
pub waiting-free : (table : TableState) (pass : Pass) (i : ℕ) (entry : Entry) → PinsFit (states_of table.entries) pass.pins → entry_at table.entries i ≡ Some entry → entry.status ≡ Waiting → is_pinned pass.pins i ≡ false
waiting-free table pass i entry h1 h2 h3 =
    grind (arith, nat_tests, get_or_default pass.pins i true false, inside table.entries i entry, length-map table.entries (option_map state_of), state-at table pass i)

-- the pins where a page is pinned, if it is to be
abbrev pub pinned_if : Bool → ℕ → List Bool → List Bool
pinned_if is_pinned i pins = if is_pinned then slice_set pins i true else pins

-- a page that was taken out, and is pinned where its tenant has an open run
module _ (old new : TableState) (pass : Pass) (i : ℕ) (running pins : Bool) (answer : pins ≡ (running && is_shared_page (state_at (sharing_of old pass) i))) (taken : sharing_of new pass ≡ broken (sharing_of old pass) i) where
  pub sharing-taken : sharing_of new (record pass { pins = pinned_if pins i pass.pins }) ≡ broken_for_run running (sharing_of old pass) i
  unfolding broken_for_run
  sharing-taken = grind (arith, nat_tests, pinned)

  pub pins-taken : PinsFit (states_of old.entries) pass.pins → PinsFit (states_of new.entries) (pinned_if pins i pass.pins)
  pins-taken fit = subst (λ (s : Sharing). PinsFit s.pages s.pins) (sym sharing-taken) (fit-by running (sharing_of old pass) i fit)

-- a waiting page has a frame of its own
pub waiter_own : (entries : List (Option Entry)) (cursor : Option ℕ) (w : Waiter) → (is : IsWaiter entries cursor w) → is_shared is.entry.status ≡ false
waiter_own entries cursor w is = ap is_shared is.status

-- what keeps each waiting page keeps all
pub waiters-kept : (old new : List (Option Entry)) (c d : Option ℕ) (ws : List Waiter) → ((w : Waiter) → IsWaiter old c w → IsWaiter new d w) → AreWaiters old c ws → AreWaiters new d ws
waiters-kept old new c d [] h are = tt
waiters-kept old new c d (w ∷ ws) h are = (h w are.0, are.1, waiters-kept old new c d ws h are.2)

-- a waiting page whose entry stays
pub waiter-kept : (old new : List (Option Entry)) (c : Option ℕ) (w : Waiter) → ((entry : Entry) → entry_at old w.page_index ≡ Some entry → is_shared entry.status ≡ false → entry_at new w.page_index ≡ Some entry) → IsWaiter old c w → IsWaiter new c w
waiter-kept old new c w h is = grind (arith, nat_tests, waiter_own old c w is)

-- where no page waits at two indices, what happens there keeps all that wait
waiters-both : (old new : List (Option Entry)) (c : Option ℕ) (i j : ℕ) (ws : List Waiter) → is_listed i ws ≡ false → is_listed j ws ≡ false
    → ((k : ℕ) → k ≢ i → k ≢ j → entry_at new k ≡ entry_at old k) → AreWaiters old c ws → AreWaiters new c ws
waiters-both old new c i j [] one other h are = tt
waiters-both old new c i j (w ∷ ws) one other h are = grind (arith, nat_tests, waiter-kept old new c w, h w.page_index, waiters-both old new c i j ws)

-- the waiting pages without one
abbrev pub others_of : ℕ → List Waiter → List Waiter
others_of i ws = filter (λ w. not (w.page_index == i)) ws

pub listed-others : (i : ℕ) (ws : List Waiter) → is_listed i (others_of i ws) ≡ false
listed-others i [] = refl
listed-others i (w ∷ ws) = grind (arith, listed-others i ws)

-- a page that doesn't wait doesn't wait among fewer
pub listed-fewer : (i j : ℕ) (ws : List Waiter) → is_listed i ws ≡ false → is_listed i (others_of j ws) ≡ false
listed-fewer i j [] none = refl
listed-fewer i j (w ∷ ws) none = grind (arith, listed-fewer i j ws)

pub waiters-fewer : (entries : List (Option Entry)) (c : Option ℕ) (i : ℕ) (ws : List Waiter) → AreWaiters entries c ws → AreWaiters entries c (others_of i ws)
waiters-fewer entries c i [] are = tt
waiters-fewer entries c i (w ∷ ws) are = grind (arith, nat_tests, listed-fewer, waiters-fewer entries c i ws are.2)

-- the waiting list without a page, as callers see it
pub waiting-forgets : (i : ℕ) (ws : List Waiter) → map waiting_of (others_of i ws) ≡ waiting_without i (map waiting_of ws)
waiting-forgets i [] = refl
waiting-forgets i (w ∷ ws) = grind (arith, waiting-forgets i ws)

-- one more page waits
pub waiters-more : (entries : List (Option Entry)) (c : Option ℕ) (ws : List Waiter) (w : Waiter) → AreWaiters entries c ws → IsWaiter entries c w → is_listed w.page_index ws ≡ false → AreWaiters entries c (ws ++ w ∷ [])
waiters-more entries c [] w are is none = (is, refl, tt)
waiters-more entries c (v ∷ ws) w are is none = grind (arith, nat_tests, last ws, waiters-more entries c ws w are.2 is)
  where
    last : (ws : List Waiter) → v.page_index ≢ w.page_index → is_listed v.page_index ws ≡ false → is_listed v.page_index (ws ++ w ∷ []) ≡ false
    last [] h none = grind (arith, nat_tests)
    last (u ∷ us) h none = grind (arith, nat_tests, last us h)

-- as callers see it, too
pub listed-answer : (i : ℕ) (ws : List Waiter) → is_listed i ws ≡ list_any (λ (entry : ℕ × ℕ). entry.0 == i) (map waiting_of ws)
listed-answer i [] = refl
listed-answer i (w ∷ ws) = ap (λ b. (w.page_index == i) || b) (listed-answer i ws)

-- as many pages have frames of their own as wait
pub waiters-few : (entries : List (Option Entry)) (c : Option ℕ) (ws : List Waiter) → AreWaiters entries c ws → length ws ≤ own_pages entries
waiters-few entries c [] are = omega arith
waiters-few entries c (w ∷ ws) are = grind (arith, nat_tests, inside, waiters-both, get_or-set_other, own_pages-set, waiter_own, waiters-few (slice_set entries w.page_index None) c ws)

-- no page waits that wasn't visited in this pass
pub ahead-free : (entries : List (Option Entry)) (c i : ℕ) (ws : List Waiter) → c < i → AreWaiters entries (Some c) ws → is_listed i ws ≡ false
ahead-free entries c i [] h are = refl
ahead-free entries c i (w ∷ ws) h are = grind (arith, nat_tests, ahead-free entries c i ws h are.2)

-- the pass stays where each waiting page does
pub pass-kept : (old new : TableState) (pass : Pass) → IsPass old pass → AreOwnKept old new → length new.arena ≡ length old.arena → length new.entries ≡ length old.entries → IsPass new pass
pass-kept old new pass is kept arena long =
    record {
      waiters = waiters-kept old.entries new.entries pass.cursor pass.cursor pass.waiting.listed (λ w waiter. waiter-kept old.entries new.entries pass.cursor w (λ entry e own. kept w.page_index entry e own) waiter) is.waiters;
      room = omega (arith, arena, is.room);
      cursor = is.cursor;
      pins = pins-kept old new pass is.pins long (λ i entry pinned e volatile. kept i entry e (ap is_shared volatile));
    }

-- a page changes that doesn't wait and isn't pinned
pub pass-others : (old new : TableState) (pass : Pass) (i : ℕ) → IsPass old pass → is_listed i pass.waiting.listed ≡ false → slice_index_or pass.pins i false ≡ false → AreOthersKept i old new
    → length new.arena ≡ length old.arena → length new.entries ≡ length old.entries → IsPass new pass
pass-others old new pass i is none free others arena long = grind (arith, nat_tests, waiters-both, pins-kept, apart-pinned)

-- the pins fit where a page becomes volatile
pins-marked : (old new : TableState) (pass : Pass) (i last : ℕ) → PinsFit (states_of old.entries) pass.pins → AreOthersKept i old new
    → ((entry : Entry) → entry_at old.entries i ≡ Some entry → entry_at new.entries i ≡ Some (record entry { status = Volatile; last = Some last })) → length new.entries ≡ length old.entries
    → PinsFit (states_of new.entries) pass.pins
pins-marked old new pass i last fit others here long =
    record {
      as_many = grind (arith, fit.as_many, length-map old.entries (option_map state_of), length-map new.entries (option_map state_of));
      volatile = λ k pinned. grind (arith, nat_tests, is_same k i, fit.volatile k pinned, state-at old pass k, state-at new pass k, others k);
    }

-- a page that doesn't wait becomes volatile; it may be pinned
pub pass-marked : (old new : TableState) (pass : Pass) (i last : ℕ) → IsPass old pass → is_listed i pass.waiting.listed ≡ false → AreOthersKept i old new
    → ((entry : Entry) → entry_at old.entries i ≡ Some entry → entry_at new.entries i ≡ Some (record entry { status = Volatile; last = Some last }))
    → length new.arena ≡ length old.arena → length new.entries ≡ length old.entries → IsPass new pass
pass-marked old new pass i last is none others here arena long =
    record {
      waiters = waiters-both old.entries new.entries pass.cursor i i pass.waiting.listed none none (λ k one other. others k one) is.waiters;
      room = omega (arith, arena, is.room);
      cursor = is.cursor;
      pins = pins-marked old new pass i last is.pins others here long;
    }

pub pass-forgets : (table : TableState) (pass : Pass) (i : ℕ) → IsPass table pass → IsPass table (forgets i pass)
pass-forgets table pass i is = grind (arith, nat_tests, waiters-fewer)

-- a page changes that isn't pinned, and doesn't wait any more
pub pass-left : (old new : TableState) (pass : Pass) (i : ℕ) → IsPass old pass → slice_index_or pass.pins i false ≡ false → AreOthersKept i old new → length new.arena ≡ length old.arena
    → length new.entries ≡ length old.entries → IsPass new (forgets i pass)
pass-left old new pass i is free others arena long = grind (arith, pass-others old new (forgets i pass) i, pass-forgets old pass i, listed-others i)

-- two pages change that aren't pinned, and don't wait any more
pub pass-left-both : (old new : TableState) (pass : Pass) (i j : ℕ) → IsPass old pass → slice_index_or pass.pins i false ≡ false → slice_index_or pass.pins j false ≡ false → ((k : ℕ) → k ≢ i → k ≢ j → entry_at new.entries k ≡ entry_at old.entries k) → length new.arena ≡ length old.arena
    → length new.entries ≡ length old.entries → IsPass new (forgets i (forgets j pass))
pass-left-both old new pass i j is free_one free_other others arena long =
    let are = pass-forgets old (forgets j pass) i (pass-forgets old pass j is) in
    record {
      waiters = waiters-both old.entries new.entries pass.cursor i j _ (listed-others i (others_of j pass.waiting.listed)) (listed-fewer j i (others_of j pass.waiting.listed) (listed-others j pass.waiting.listed)) others are.waiters;
      room = omega (arith, arena, is.room);
      cursor = is.cursor;
      pins = pins-kept old new pass is.pins long (λ k entry pinned e volatile. others k (apart-pinned pass.pins i k free_one pinned) (apart-pinned pass.pins j k free_other pinned) ∙ e);
    }

-- every page stays that was there
pub kept-own : (old new : TableState) → ((i : ℕ) (entry : Entry) → entry_at old.entries i ≡ Some entry → entry_at new.entries i ≡ Some entry) → AreOwnKept old new
kept-own old new h i entry e own = h i entry e
