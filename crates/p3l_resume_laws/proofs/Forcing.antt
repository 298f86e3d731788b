-- Widths that the processes of a template force: if they fit between channels, each inner part hands on the widths it is given. The in
-- channel carries the in words of the node, the template's own channels the row that is surveyed, and its out channel the out words, with
-- as many tags as the in channel. This is for each template except that of a reduce.
use Rattle.std.proofs.Common.{◌≡◌, ℕ, zero, suc, ◌+◌, ◌-◌, ◌<◌, ◌≤◌, List, [], ◌∷◌, length, get_or, map, replicate, take, refl, sym, ◌∙◌, subst, arith}
use Rattle.std.specs.List.{AllByRecursion}
use Rattle.std.proofs.lemmas.List.{length-replicate}
use Rattle.p3l_skel.specs.declared.tree.Tree.{Tree}
use Rattle.p3l_skel.specs.Lawful.{HasWords, IsChain}
use Rattle.p3l_skel.specs.Tree.{node_at, part_at}
use Rattle.p3l_firing.specs.declared.process.Proc.{Proc}
use Rattle.p3l_firing.specs.Typed.{FitsKind}
use Rattle.p3l_firing.specs.Widths.{AllCarry, Carries, Widths}
use Rattle.p3l_template.specs.Pipe.{pipe_shape, stage_slots}
use Rattle.p3l_template.specs.Run.{run_shape}
use Rattle.p3l_template.specs.Shape.{Base, Slot, Blueprint, fan_slots, no_slot, numbers_from}
use Rattle.p3l_template.specs.Width.{ins_width, no_width, outs_width, stage_widths, worker_widths}
use Rattle.p3l_template.specs.declared.width.Width.{Width}
use Rattle.p3l_template.specs.laws.Fan.{fan_at, fan_length}
use Rattle.p3l_template.specs.laws.PipeTyping.{stage_part, stages_length}
use Rattle.p3l_template.specs.laws.TimesLaw.{all_numbers}
use Rattle.p3l_farm.specs.Farm.{farm_shape}
use Rattle.p3l_map.specs.MapShape.{map_shape}
use Rattle.p3l_loop.specs.Loop.{loop_shape}
use Rattle.p3l_resume_laws.proofs.Rows.{CarryRow, number_at, row_append, row_same}

-- all these processes fit between channels of these widths
abbrev pub FitAll : Tree → Widths → List Proc → Type 0
FitAll tree w procs = AllByRecursion (λ (q : Proc). FitsKind q.kind tree w q) procs

-- the in channel of a slot in node k carries the in words of the part there, with t tags; and its out channel the out words
abbrev pub IsFed : Tree → (k : ℕ) → Widths → (t : ℕ) → Slot → Type 0
IsFed tree k w t slot = Carries w slot.input (node_at tree (part_at tree k slot.part)).ins t

abbrev pub IsPassed : Tree → (k : ℕ) → Widths → (t : ℕ) → Slot → Type 0
IsPassed tree k w t slot = Carries w slot.output (node_at tree (part_at tree k slot.part)).outs t

abbrev pub AllFed : Tree → (k : ℕ) → Widths → (t : ℕ) → List Slot → Type 0
AllFed tree k w t slots = (v : ℕ) → v < length slots → IsFed tree k w t (get_or slots v no_slot)

-- each slot hands on what it is given
abbrev pub AllPass : Tree → (k : ℕ) → Widths → (t : ℕ) → List Slot → Type 0
AllPass tree k w t slots =
    (v : ℕ) → v < length slots → IsFed tree k w t (get_or slots v no_slot) → IsPassed tree k w t (get_or slots v no_slot)

-- the channels of a template carry this row, and its out channel the out words of its node; its slots are given tokens with `more` tags
pub record Flows (tree : Tree) (k : ℕ) (w : Widths) (base : Base) (t more : ℕ) (slots : List Slot) (row : List Width) : Type 0 where
  pub own : CarryRow w base.chan row
  pub output : Carries w base.output (node_at tree k).outs t
  pub fed : AllFed tree k w (t + more) slots

-- a template forces the row for a number of tags
abbrev pub Forces : Tree → (k : ℕ) → Blueprint → (more : ℕ) → (ℕ → List Width) → Type 0
Forces tree k shape more row =
    (w : Widths) (base : Base) (t : ℕ) → FitAll tree w (shape.procs base) → AllPass tree k w (t + more) (shape.slots base) →
    Carries w base.input (node_at tree k).ins t → Flows tree k w base t more (shape.slots base) (row t)

-- RUN

pub run_forces : (tree : Tree) (k : ℕ) → Forces tree k (run_shape k) 0 (λ t. [])
run_forces tree k w base t fits pass input =
    let gives = fits.0.gives in
    record {
      own = tt;
      output = record { words = gives.words; tags = gives.tags ∙ input.tags };
      fed = λ v low. absurd (omega (arith, low));
    }

-- PIPE

none_more : (w : Widths) (c n t : ℕ) → Carries w c n t → Carries w c n (t + 0)
none_more w c n t h = let tags = h.tags in record { words = h.words; tags = omega (arith, tags) }

none_less : (w : Widths) (c n t : ℕ) → Carries w c n (t + 0) → Carries w c n t
none_less w c n t h = let tags = h.tags in record { words = h.words; tags = omega (arith, tags) }

module _ (tree : Tree) (w : Widths) (t : ℕ) where
  -- stages that are these nodes, at these slots, over the channels from c on, to channel y
  record FlowsOn (slots : List Slot) (c y o : ℕ) (ps : List ℕ) (row : List Width) : Type 0 where
    own : CarryRow w c row
    output : Carries w y o t
    fed : (v : ℕ) → v < length ps → Carries w (get_or slots v no_slot).input (node_at tree (get_or ps v 0)).ins t

  abbrev PassOn : List Slot → List ℕ → Type 0
  PassOn slots ps =
      (v : ℕ) → v < length ps → Carries w (get_or slots v no_slot).input (node_at tree (get_or ps v 0)).ins t →
      Carries w (get_or slots v no_slot).output (node_at tree (get_or ps v 0)).outs t

  stages_flow : (u x c y k i o : ℕ) (ps : List ℕ) → length ps ≡ suc k → IsChain tree i o ps → Carries w x i t →
      PassOn (stage_slots u x c y k) ps → FlowsOn (stage_slots u x c y k) c y o ps (map (λ p. outs_width tree p t) (take k ps))
  unfolding stage_slots
  stages_flow u x c y k i o [] e chain input pass = absurd (omega (arith, e))
  stages_flow u x c y zero i o (p ∷ []) e chain input pass =
      let first : Carries w x (node_at tree p).ins t = subst (λ z. Carries w x z t) (sym chain.1) input in
      record {
        own = tt;
        output = subst (λ z. Carries w y z t) chain.2 (pass 0 (omega arith) first);
        fed = elim [ zero ↦ λ low. first | suc v ↦ λ low. absurd (omega (arith, low)) ];
      }
  stages_flow u x c y (suc k) i o (p ∷ []) e chain input pass = absurd (omega (arith, e))
  stages_flow u x c y zero i o (p ∷ (q ∷ ps)) e chain input pass = absurd (omega (arith, e))
  stages_flow u x c y (suc k) i o (p ∷ (q ∷ ps)) e chain input pass =
      let first : Carries w x (node_at tree p).ins t = subst (λ z. Carries w x z t) (sym chain.1) input in
      let next : Carries w c (node_at tree p).outs t = pass 0 (omega arith) first in
      let rest = stages_flow (suc u) c (suc c) y k (node_at tree p).outs o (q ∷ ps) (omega (arith, e)) chain.2 next
      (λ v low. pass (suc v) (omega (arith, low))) in
      record {
        own = (next, rest.own);
        output = rest.output;
        fed = elim [ zero ↦ λ low. first | suc v ↦ λ low. rest.fed v (omega (arith, low)) ];
      }

module _ (tree : Tree) (k : ℕ) (some : 1 ≤ length (node_at tree k).parts)
    (chain : IsChain tree (node_at tree k).ins (node_at tree k).outs (node_at tree k).parts) where
  abbrev parts : List ℕ
  parts = (node_at tree k).parts

  module _ (w : Widths) (base : Base) (t : ℕ) where
    abbrev slots : List Slot
    slots = stage_slots 0 base.input base.chan base.output (length (node_at tree k).parts - 1)

    many : length slots ≡ length parts
    many = omega (arith, some, stages_length 0 base.input base.chan base.output (length parts - 1))

    part_is : (v : ℕ) → v < length parts → (get_or slots v no_slot).part ≡ v
    part_is v low =
        stage_part 0 base.input base.chan base.output (length parts - 1) v (omega (arith, low, some)) ∙ omega arith

    pipe_flow : AllPass tree k w (t + 0) slots → Carries w base.input (node_at tree k).ins t →
        Flows tree k w base t 0 slots (stage_widths tree t parts)
    pipe_flow pass input =
        let on : PassOn tree w t slots parts = (λ v low fed.
        let e = part_is v low in
        none_less w _ _ t
        (subst (λ z. Carries w (get_or slots v no_slot).output (node_at tree (part_at tree k z)).outs (t + 0)) e
        (pass v (omega (arith, low, many))
        (subst (λ z. Carries w (get_or slots v no_slot).input (node_at tree (part_at tree k z)).ins (t + 0)) (sym e)
        (none_more w _ _ t fed))))) in
        let flow = stages_flow tree w t 0 base.input base.chan base.output (length parts - 1) (node_at tree k).ins (node_at tree k).outs
        parts (omega (arith, some)) chain input on in
        record {
          own = flow.own;
          output = flow.output;
          fed = λ v low.
              let below : v < length parts = omega (arith, low, many) in
              subst (λ z. Carries w (get_or slots v no_slot).input (node_at tree (part_at tree k z)).ins (t + 0)) (sym (part_is v below))
              (none_more w _ _ t (flow.fed v below));
        }

pub pipe_forces : (tree : Tree) (k : ℕ) → 1 ≤ length (node_at tree k).parts →
    IsChain tree (node_at tree k).ins (node_at tree k).outs (node_at tree k).parts →
    Forces tree k (pipe_shape (length (node_at tree k).parts - 1)) 0 (λ t. stage_widths tree t (node_at tree k).parts)
pipe_forces tree k some chain w base t fits pass input = pipe_flow tree k some chain w base t pass input

-- FARM AND MAP

-- n workers that take x words and give y, with u tags
module _ (tree : Tree) (k n : ℕ) (w : Widths) (base : Base) (t more x y u : ℕ) (deep : u ≡ t + more) (some : 1 ≤ n)
    (takes : (node_at tree (part_at tree k 0)).ins ≡ x) (gives : (node_at tree (part_at tree k 0)).outs ≡ y)
    (to_workers : AllCarry w (numbers_from base.chan n) x u)
    (pass : AllPass tree k w (t + more) (fan_slots base.chan (base.chan + n) n)) where
  abbrev workers : List Slot
  workers = fan_slots base.chan (base.chan + n) n

  worker_fed : (v : ℕ) → v < n → IsFed tree k w (t + more) (get_or workers v no_slot)
  worker_fed v low =
      let at = number_at (λ c. Carries w c x u) n base.chan v to_workers low in
      subst (IsFed tree k w (t + more)) (sym (fan_at base.chan (base.chan + n) n v low))
      (record { words = at.words ∙ sym takes; tags = at.tags ∙ deep })

  worker_gives : (v : ℕ) → v < n → Carries w (base.chan + n + v) y u
  worker_gives v low =
      let passed : Carries w (base.chan + n + v) (node_at tree (part_at tree k 0)).outs (t + more) =
      subst (IsPassed tree k w (t + more)) (fan_at base.chan (base.chan + n) n v low)
      (pass v (omega (arith, low, fan_length base.chan (base.chan + n) n)) (worker_fed v low)) in
      record { words = passed.words ∙ gives; tags = passed.tags ∙ sym deep }

  fan_flow : AllCarry w (numbers_from (base.chan + n) n) y (w.tags base.output + more) →
      w.words base.output ≡ (node_at tree k).outs →
      Flows tree k w base t more workers (worker_widths n (record { words = x; tags = u }) (record { words = y; tags = u }))
  fan_flow from_workers words =
      let one = number_at (λ c. Carries w c y (w.tags base.output + more)) n (base.chan + n) 0 from_workers (omega (arith, some)) in
      let other = worker_gives 0 (omega (arith, some)) in
      let before : Width = record { words = x; tags = u } in
      let after : Width = record { words = y; tags = u } in
      let behind : CarryRow w (base.chan + n) (replicate n after) =
      row_same w n (base.chan + n) after (all_numbers (λ c. Carries w c y u) (base.chan + n) n worker_gives) in
      record {
        own = row_append w base.chan (replicate n before) (replicate n after) (row_same w n base.chan before to_workers)
            (subst (λ z. CarryRow w (base.chan + z) (replicate n after)) (sym (length-replicate n before)) behind);
        output = record { words = words; tags = omega (arith, one.tags, other.tags, deep) };
        fed = λ v low. worker_fed v (omega (arith, low, fan_length base.chan (base.chan + n) n));
      }

pub farm_forces : (tree : Tree) (k n : ℕ) → 1 ≤ n → HasWords tree (part_at tree k 0) (node_at tree k).ins (node_at tree k).outs →
    Forces tree k (farm_shape k n) 1 (λ t. worker_widths n (ins_width tree k (t + 1)) (outs_width tree k (t + 1)))
farm_forces tree k n some part w base t fits pass input =
    let emit = fits.0 in
    let collect = fits.1.0 in
    fan_flow tree k n w base t 1 (node_at tree k).ins (node_at tree k).outs (t + 1) refl some part.takes part.gives
    (subst (λ z. AllCarry w (numbers_from base.chan n) (node_at tree k).ins (z + 1)) input.tags emit.gives)
    pass collect.takes collect.gives

pub map_forces : (tree : Tree) (k n : ℕ) → 1 ≤ n →
    Forces tree k (map_shape k n) 0 (λ t. worker_widths n (ins_width tree (part_at tree k 0) t) (outs_width tree (part_at tree k 0) t))
map_forces tree k n some w base t fits pass input =
    let scatter = fits.0 in
    let gather = fits.1.0 in
    let same : w.tags base.output ≡ w.tags base.output + 0 = omega arith in
    fan_flow tree k n w base t 0 (node_at tree (part_at tree k 0)).ins (node_at tree (part_at tree k 0)).outs t (omega arith) some refl refl
    (subst (λ z. AllCarry w (numbers_from base.chan n) (node_at tree (part_at tree k 0)).ins z) input.tags scatter.gives)
    pass
    (subst (λ z. AllCarry w (numbers_from (base.chan + n) n) (node_at tree (part_at tree k 0)).outs z) same gather.takes)
    gather.gives

-- LOOP

pub loop_forces : (tree : Tree) (k tokens : ℕ) → HasWords tree (part_at tree k 0) (node_at tree k).ins (node_at tree k).outs →
    Forces tree k (loop_shape k tokens) 2
    (λ t. ins_width tree k (t + 2) ∷ (outs_width tree k (t + 2) ∷ (ins_width tree k (t + 2) ∷ (no_width ∷ []))))
loop_forces tree k tokens part w base t fits pass input =
    let head = fits.0 in
    let tail = fits.1.0 in
    let outside = input.tags in
    let inside : Carries w base.chan (node_at tree k).ins (t + 2) =
    subst (λ z. Carries w base.chan (node_at tree k).ins (z + 2)) outside head.gives in
    let back : Carries w (base.chan + 2) (node_at tree k).ins (t + 2) =
    subst (λ z. Carries w (base.chan + 2) (node_at tree k).ins (z + 2)) outside head.back in
    let given : Carries w base.chan (node_at tree (part_at tree k 0)).ins (t + 2) =
    record { words = inside.words ∙ sym part.takes; tags = inside.tags } in
    let passed : Carries w (base.chan + 1) (node_at tree (part_at tree k 0)).outs (t + 2) = pass 0 (omega arith) given in
    let out = tail.takes in
    let a : base.chan + 1 ≡ suc base.chan = omega arith in
    let b : base.chan + 2 ≡ suc (suc base.chan) = omega arith in
    let c : base.chan + 3 ≡ suc (suc (suc base.chan)) = omega arith in
    record {
      own = (
        inside,
        (
          subst (λ z. Carries w z (node_at tree k).outs (t + 2)) a (record { words = passed.words ∙ part.gives; tags = passed.tags }),
          (
            subst (λ z. Carries w z (node_at tree k).ins (t + 2)) b back,
            (subst (λ z. Carries w z 0 0) c head.credits, tt),
          ),
        ),
      );
      output = record { words = tail.gives; tags = omega (arith, out.tags, passed.tags) };
      fed = elim [ zero ↦ λ low. given | suc v ↦ λ low. absurd (omega (arith, low)) ];
    }
