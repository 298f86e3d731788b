-- The kind of a loop: the widths of its channels, and what is found in it by the tags alone.
use Rattle.std.specs.Prelude.{ℕ, ◌+◌, Bool, true, ◌&&◌, List, [], ◌∷◌, ◌++◌, map, length, get_or, nat_eq}
use Rattle.p3l_skel.specs.declared.tree.Tree.{Tree}
use Rattle.p3l_firing.specs.Nodes.{turns_of}
use Rattle.p3l_firing.specs.State.{State}
use Rattle.p3l_firing.specs.Token.{untagged}
use Rattle.p3l_firing.specs.declared.token.Token.{Token}
use Rattle.p3l_template.specs.Bag.{read, numbered}
use Rattle.p3l_template.specs.Finding.{Finding, Finds, bares, line_of}
use Rattle.p3l_template.specs.Kind.{Kind}
use Rattle.p3l_template.specs.Shape.{Base}
use Rattle.p3l_template.specs.Width.{no_width, ins_width, outs_width}
use Rattle.p3l_template.specs.declared.width.Width.{Width}
use Rattle.p3l_loop.specs.Loop.{in_turns, loop_shape}

-- the channels of node k: to its body, from it, back to the head, and that of the credits; tokens inside have two tags more
abbrev pub loop_widths : Tree → (k t : ℕ) → List Width
loop_widths tree k t = ins_width tree k (t + 2) ∷ (outs_width tree k (t + 2) ∷ (ins_width tree k (t + 2) ∷ (no_width ∷ [])))

-- the loop's view of a state, without outcomes
pub record Seen : Type 0 where
  pub next : ℕ
  pub least : ℕ
  pub credits : ℕ
  pub held : List Token
  pub ring : List Token

-- the admitted tokens, without their turns
unfoldable pub seen_bag : Seen → List Token
seen_bag v = map untagged (bares v.held) ++ map untagged (bares v.ring)

-- their number, the credits and the turns are as a loop with these turns and tokens keeps them
unfoldable pub is_counted : (turns tokens : ℕ) → Seen → Bool
is_counted turns tokens v =
    nat_eq (v.least + length (seen_bag v)) v.next
    && (nat_eq (v.credits + length (seen_bag v)) tokens && (in_turns turns v.ring && in_turns turns v.held))

-- the loop at this place, in whose body these tokens are pending
abbrev pub seen_of : Base → State → List Token → Seen
seen_of base s pending =
    record {
      next = (s.own base.proc).number;
      least = (s.own (base.proc + 1)).number;
      credits = length (s.tokens (base.chan + 3));
      held = bares (s.own (base.proc + 1)).held;
      ring = line_of s base.chan (base.chan + 1) pending ++ bares (s.tokens (base.chan + 2));
    }

unfoldable pub found_by : (turns tokens : ℕ) → Seen → Finding
found_by turns tokens v =
    record {
      orderly = is_counted turns tokens v && numbered (seen_bag v) v.least;
      pending = bares (read (seen_bag v) v.least (length (seen_bag v)));
    }

unfoldable pub loop_finds : (node tokens : ℕ) → Finds
loop_finds node tokens tree base s inner =
    found_by (turns_of tree node) tokens (seen_of base s (get_or inner 0 []))

-- of at most `tokens` tokens at once
abbrev pub loop_kind : (node tokens : ℕ) → Kind
loop_kind node tokens =
    record {
      shape = loop_shape node tokens;
      widths = loop_widths;
      deeper = 2;
      is_loop = true;
      finds = loop_finds node tokens;
    }
