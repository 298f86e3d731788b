-- The kind of a pipe: what is found in it by the tags alone, and the widths between its stages.
use Rattle.std.specs.Prelude.{ℕ, zero, suc, ◌+◌, ◌-◌, true, false, List, [], ◌∷◌, ◌++◌}
use Rattle.p3l_skel.specs.Tree.{node_at}
use Rattle.p3l_firing.specs.State.{State}
use Rattle.p3l_firing.specs.declared.token.Token.{Token}
use Rattle.p3l_template.specs.Finding.{Finds, bares}
use Rattle.p3l_template.specs.Kind.{Kind}
use Rattle.p3l_template.specs.Pipe.{pipe_shape}
use Rattle.p3l_template.specs.Width.{stage_widths}

-- the tokens still to leave the last of these stages, whose in channels are those from c on, where q are to enter the first
-- after those in its in channel
unfoldable pub after_stages : State → List Token → ℕ → List (List Token) → List Token
after_stages s q c [] = q
after_stages s q c (p ∷ ps) = after_stages s (bares p ++ (bares (s.tokens c) ++ q)) (suc c) ps

-- the same of a pipe whose own channels are those from c on: its first stage has none to enter it
unfoldable pub in_stages : State → ℕ → List (List Token) → List Token
in_stages s c [] = []
in_stages s c (p ∷ ps) = after_stages s (bares p) c ps

-- the tokens that wait in a stage's own channel: none at the first stage
unfoldable pub waiting : State → ℕ → ℕ → List Token
waiting s c zero = []
waiting s c (suc k) = bares (s.tokens (c + k))

unfoldable pub pipe_finds : Finds
pipe_finds tree base s inner = record { orderly = true; pending = in_stages s base.chan inner }

-- a pipe of this many stages
abbrev pub pipe_kind : ℕ → Kind
pipe_kind stages =
    record {
      shape = pipe_shape (stages - 1);
      widths = λ tree node t. stage_widths tree t (node_at tree node).parts;
      deeper = 0;
      is_loop = false;
      finds = pipe_finds;
    }
