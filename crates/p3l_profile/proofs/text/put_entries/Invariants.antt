use Rattle.std.proofs.Common.{◌≡◌, ◌++◌, drop}
use Rattle.std.specs.Prelude.{slice_index, string_bytes}
use Rattle.p3l_profile.specs.Text.{entries, number_of}
use Rattle.p3l_profile.proofs.text.put_entries.Given as goal

-- the text so far with the entries that are left is the text before with all entries
abbrev pub invariant-loop-home : goal.invariant-loop-home
invariant-loop-home l =
    let number = number_of l.table (slice_index l.highs.work) (slice_index l.highs.took) in
    string_bytes l.text ++ entries l.table number l.tree.nodes l.home (drop l.home l.modules)
    ≡ string_bytes l.fn.text ++ entries l.table number l.tree.nodes 0 l.modules
