use Rattle.std.proofs.Common.{◌≢◌, ℕ, List, sym, subst}
use Rattle.goal_ranks.specs.Agenda.{entries_of}
use Rattle.goal_ranks.specs.Entries.{AreEntries, Covers, HasEntry}
use Rattle.goal_ranks.specs.Lists.{KeyAt, slot_key}
use Rattle.goal_ranks.proofs.Tidying.{fill_covers}
use Rattle.goal_ranks.proofs.slots.put.Goals as goal

pub add-requires-clause-covers : goal.add-requires-clause-covers
add-requires-clause-covers g c =
    let covers = subst (λ (es : List _). Covers slot_key c.args.slots.now.items es) (sym c.make_room.ensures.same) c.requires.covers in
    subst (λ (xs : List _). (i k : ℕ) → i ≢ c.in_ok-index.index → KeyAt slot_key xs i k
    → HasEntry (entries_of c.make_room.new.self) i k) (sym c.deref.ensures.value)
    (fill_covers c.args.slots.now.items c.fill.new.slots.items c.args.waiting c.in_ok-index.index
    (entries_of c.make_room.new.self) c.in_ok-index.ensures.ok covers)

pub returns-clause-keys : goal.returns-clause-keys
returns-clause-keys g c =
    subst (λ (xs : List _). AreEntries slot_key xs (entries_of c.add.new.self)) c.deref.ensures.value c.add.ensures
