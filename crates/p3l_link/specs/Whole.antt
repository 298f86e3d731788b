-- A whole net between its source and its sink, seen through the part between them.
use Rattle.std.specs.Prelude.{ℕ, ℤ, ◌+◌, ◌*◌, Bool, true, ◌&&◌, nat_eq, List, [], ◌∷◌, length}
use Rattle.p3l_skel.specs.Tree.{node_at}
use Rattle.p3l_firing.specs.NetInvariants.{Invariants}
use Rattle.p3l_firing.specs.State.{State}
use Rattle.p3l_firing.specs.Token.{bodies}
use Rattle.p3l_firing.specs.declared.net.Net.{Net}
use Rattle.p3l_template.specs.Part.{Part, line, in_channels, in_hands}
use Rattle.p3l_template.specs.Units.{Units}
use Rattle.p3l_link.specs.Part.{root_part}

-- all items have n words
unfoldable pub all_long : ℕ → List (List ℤ) → Bool
all_long n [] = true
all_long n (words ∷ items) = nat_eq (length words) n && all_long n items

-- the firings of the whole net that the tokens in it can still need: what the part owes; its firings and one of the sink for each
-- token before it; and one of the sink for each that is still to leave it or has left it
unfoldable pub owed_round : Part → State → ℕ
owed_round P s =
    P.owed s + ((P.firings + 1) * length (s.tokens P.input) + (length (P.pending s) + length (s.tokens P.output)))

-- the tokens in and round a part, if the items that are not yet sent are to have n words
abbrev pub invariants_round : ℕ → Part → Invariants
invariants_round n P =
    record {
      orderly = λ s. P.orderly s && all_long n s.unsent;
      to_come = λ s. bodies (line P s);
      owed = owed_round P;
    }

-- the tokens of a linked net
abbrev pub root_invariants : Units → List ℕ → Invariants
root_invariants units counts = invariants_round (node_at units.tree 0).ins (root_part units counts)

-- the number of tokens in a net: in its channels, credits too, and held by its processes
unfoldable pub tokens_in : Net → State → ℕ
tokens_in net s = in_channels s 0 (length net.chans) + in_hands s 0 (length net.procs)
