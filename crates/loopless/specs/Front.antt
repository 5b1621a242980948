-- Prefixes, those that may go on, and where they end.
use Rattle.std.specs.Prelude.{◌≡◌, ℕ, ◌<◌, List, length, slice_index_or}
use Rattle.prefix_tree.specs.Entries.{queued_entries, prefixes}
use Rattle.prefix_tree.specs.declared.entry.Entry.{Entry}
use Rattle.loopless.specs.declared.front.Front.{Front}

-- the entries of the prefixes that may go on
abbrev pub waiting : Front → List Entry
waiting f = queued_entries f.queue

-- those prefixes
abbrev pub prefixes_of : Front → List (List ℕ)
prefixes_of f = prefixes f.tree.items (waiting f)

-- the entry is the first that waits
pub record IsLooplessFirst (f : Front) (e : Entry) : Type 0 where
  pub some : 0 < length (waiting f)
  pub at : e ≡ slice_index_or (waiting f) 0 e
