-- The template of a loop.
use Rattle.std.specs.Prelude.{◌≡◌, ◌<◌, ℕ, zero, suc, ◌+◌, ◌*◌, ◌-◌, Bool, true, false, ◌&&◌, List, [], ◌∷◌, ◌++◌, map, length, get_or, nat_eq, nat_lt}
use Rattle.p3l_base.specs.declared.outcome.Outcome.{Outcome}
use Rattle.p3l_skel.specs.declared.tree.Form.TheVariants as form
use Rattle.p3l_skel.specs.declared.tree.Tree.{Tree}
use Rattle.p3l_skel.specs.Lawful.{HasWords}
use Rattle.p3l_skel.specs.Tree.{node_at, part_at}
use Rattle.p3l_firing.specs.State.{State}
use Rattle.p3l_firing.specs.Token.{over, newest_tag, untagged, later_tags}
use Rattle.p3l_firing.specs.declared.process.Proc.{Proc}
use Rattle.p3l_firing.specs.declared.process.ProcKind.TheVariants.{Head, Tail}
use Rattle.p3l_firing.specs.declared.token.Token.{Token}
use Rattle.p3l_firing.specs.kinds.Tail.{Turn, Turn.Held, Turn.Again, turn_of}
use Rattle.p3l_template.specs.Bag.{read, numbered}
use Rattle.p3l_template.specs.Part.{Part, line, no_part, due}
use Rattle.p3l_template.specs.Shape.{empty_chan, Blueprint, Base}
use Rattle.p3l_template.specs.Units.{Units}
use Rattle.p3l_firing.specs.Nodes.{test_of, spent_of, turns_of}

-- a loop's work on a value: the meanings of its body and of its condition, its spent outcome and its turns
pub record Laps : Type 0 where
  pub body : Outcome → Outcome
  pub test : Outcome → Outcome
  pub spent : Outcome
  pub turns : ℕ

unfoldable pub ending : Turn → Outcome → Outcome
ending (Held w) o = w
ending Again o = o

-- the outcome of what left the body, where k more turns are allowed
unfoldable pub after : Laps → ℕ → Outcome → Outcome
after l zero o = ending (turn_of l.test l.spent false o) o
after l (suc k) o = ending (turn_of l.test l.spent true o) (after l k (l.body o))

-- the same, by how often the body may still be passed: what the language says of a loop
unfoldable pub turns : Laps → ℕ → Outcome → Outcome
turns l zero o = o
turns l (suc t) o = ending (turn_of l.test l.spent (nat_lt 0 t) (l.body o)) (turns l t (l.body o))

-- the outcome of an item
unfoldable pub rounds : Laps → Outcome → Outcome
rounds l o = after l (l.turns - 1) (l.body o)

-- the final outcome of a token that left the body, with its number and without its turn
unfoldable pub settled : Laps → Token → Token
settled l x = record { tags = later_tags x.tags; body = after l (l.turns - newest_tag x) x.body }

-- the loop's view of a state
pub record View : Type 0 where
  -- the own states of Head and Tail, and how many credits there are
  pub next : ℕ
  pub least : ℕ
  pub credits : ℕ
  pub held : List Token
  -- the tokens on the ring, each as it leaves the body
  pub ring : List Token
  pub input : List Token
  pub output : List Token

-- the admitted tokens, each as it will be released, but for its number
unfoldable pub bag : Laps → View → List Token
bag l v = map untagged v.held ++ map (settled l) v.ring

-- each in turn 1 to turns (to 1 where turns is 0)
unfoldable pub in_turns : ℕ → List Token → Bool
in_turns turns [] = true
in_turns turns (x ∷ xs) = (nat_lt 0 (newest_tag x) && nat_lt (newest_tag x) (2 + (turns - 1))) && in_turns turns xs

unfoldable pub to_come : Laps → View → List Token
to_come l v = read (bag l v) v.least (length (bag l v))

unfoldable pub well_kept : Laps → ℕ → View → Bool
well_kept l tokens v =
    nat_eq (v.least + length (bag l v)) v.next
    && (nat_eq (v.credits + length (bag l v)) tokens
    && (in_turns l.turns v.ring && (in_turns l.turns v.held && numbered (bag l v) v.least)))

-- the firings that the tokens after the body still need, where the body needs f for each token
unfoldable pub ring_due : ℕ → ℕ → List Token → ℕ
ring_due turns f [] = 0
ring_due turns f (x ∷ xs) = ((turns - newest_tag x) * (f + 2) + 2) + ring_due turns f xs

abbrev pub head_proc : ℕ → Base → Proc
head_proc node base =
    record {
      kind = Head;
      node = node;
      arg = 0;
      ins = base.input ∷ ((base.chan + 2) ∷ ((base.chan + 3) ∷ []));
      outs = base.chan ∷ [];
    }

abbrev pub tail_proc : ℕ → Base → Proc
tail_proc node base =
    record {
      kind = Tail;
      node = node;
      arg = 0;
      ins = (base.chan + 1) ∷ [];
      outs = base.output ∷ ((base.chan + 2) ∷ ((base.chan + 3) ∷ []));
    }

abbrev pub laps_of : Units → ℕ → Part → Laps
laps_of units node Q = record { body = Q.meaning; test = test_of units.tree units.leaf node; spent = spent_of units.tree node; turns = turns_of units.tree node }

abbrev pub view_of : Base → Part → State → View
view_of base Q s =
    record {
      next = (s.own base.proc).number;
      least = (s.own (base.proc + 1)).number;
      credits = length (s.tokens (base.chan + 3));
      held = (s.own (base.proc + 1)).held;
      ring = line Q s ++ map (over Q.meaning) (s.tokens (base.chan + 2));
      input = s.tokens base.input;
      output = s.tokens base.output;
    }

abbrev pub loop_firings : ℕ → ℕ → ℕ
loop_firings turns f = 1 + ((turns - 1) * (f + 2) + (f + 2))

abbrev pub loop_over : Units → ℕ → ℕ → Base → Part → Part
loop_over units node tokens base Q =
    record {
      input = base.input;
      output = base.output;
      proc_from = base.proc;
      proc_to = Q.proc_to;
      chan_from = base.chan;
      chan_to = Q.chan_to;
      meaning = rounds (laps_of units node Q);
      pending = λ s. to_come (laps_of units node Q) (view_of base Q s);
      orderly = λ s. Q.orderly s && well_kept (laps_of units node Q) tokens (view_of base Q s);
      firings = loop_firings (turns_of units.tree node) Q.firings;
      owed = λ s.
          due Q s + (ring_due (turns_of units.tree node) Q.firings (line Q s ++ map (over Q.meaning) (s.tokens (base.chan + 2)))
          + ((Q.firings + 1) * length (s.tokens (base.chan + 2)) + length (s.own (base.proc + 1)).held));
    }

abbrev pub loop_shape : ℕ → ℕ → Blueprint
loop_shape node tokens =
    record {
      procs = λ base. head_proc node base ∷ (tail_proc node base ∷ []);
      chans = λ base. 4;
      laid = λ cap base. empty_chan cap ∷ (empty_chan cap ∷ (empty_chan tokens ∷ (record { cap = tokens; credits = tokens } ∷ [])));
      inner = 1;
      slots = λ base. record { input = base.chan; output = base.chan + 1; part = 0 } ∷ [];
      meaning = λ units roles.
          rounds (record {
            body = (roles 0).meaning;
            test = test_of units.tree units.leaf node;
            spent = spent_of units.tree node;
            turns = turns_of units.tree node;
          });
      firings = λ units roles. loop_firings (turns_of units.tree node) (roles 0).firings;
      part = λ units roles base parts. loop_over units node tokens base (get_or parts 0 no_part);
    }

-- a node of a tree that is a loop
pub record IsLoopNode (tree : Tree) (node : ℕ) : Type 0 where
  pub there : node < length tree.nodes
  pub most : ℕ
  pub tokens : ℕ
  pub form : (node_at tree node).form ≡ form.Loop most tokens
  pub same : (node_at tree node).ins ≡ (node_at tree node).outs
  pub body : HasWords tree (part_at tree node 0) (node_at tree node).ins (node_at tree node).outs
