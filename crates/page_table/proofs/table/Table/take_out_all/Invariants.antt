use Rattle.page_table.proofs.Base.{◌≡◌, ◌+◌, length, pages_broken, cost_from, Pass, AreOwnKept, contents_of, sharing_of, used_by}
use Rattle.page_table.proofs.table.Table.take_out_all.Given as goal

abbrev pub invariant-loop-page_index : goal.invariant-loop-page_index
invariant-loop-page_index l = record {
  contents : contents_of l.self ≡ contents_of l.fn.self;
  sharing : (pass : Pass) → sharing_of l.self pass ≡ pages_broken (sharing_of l.fn.self pass) 0 l.page_index;
  kept : AreOwnKept l.fn.self l.self;
  used : (pass : Pass) → used_by l.self ≡ used_by l.fn.self + cost_from (sharing_of l.fn.self pass) 0 l.page_index;
  arena : length l.self.arena ≡ length l.fn.self.arena;
}
