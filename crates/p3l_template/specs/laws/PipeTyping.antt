-- The typing law of a pipe: the channel after a stage carries the words that the stage gives.
use Rattle.std.proofs.Common.{◌≡◌, ℕ, zero, suc, ◌+◌, ◌-◌, ◌<◌, ◌≤◌, List, [], ◌∷◌, ◌++◌, length, take, get_or, refl, sym, ap, ◌∙◌, subst, arith}
use Rattle.std.proofs.lemmas.List.{length-map, length-take-le}
use Rattle.p3l_skel.specs.declared.tree.Tree.{Tree}
use Rattle.p3l_skel.specs.Tree.{node_at, part_at}
use Rattle.p3l_skel.specs.Lawful.{IsChain}
use Rattle.p3l_firing.specs.Process.{times}
use Rattle.p3l_firing.specs.Widths.{Widths, Carries}
use Rattle.p3l_template.specs.Pipe.{pipe_shape, stage_slots}
use Rattle.p3l_template.specs.Shape.{numbers_from, no_slot}
use Rattle.p3l_template.specs.Typing.{IsTypedShape, IsPipeNode, Carry, slot_ins, slot_outs}
use Rattle.p3l_template.specs.Width.{no_width, outs_width, stage_widths}
use Rattle.p3l_template.specs.declared.width.Width.{Width}
use Rattle.p3l_template.specs.laws.Plain.{plain_credits}
use Rattle.p3l_template.specs.laws.TimesLaw.{times_append, times_cons}

-- the widths of the channels after all these stages but the last
unfoldable behind_stages : Tree → ℕ → List ℕ → List Width
behind_stages tree t [] = []
behind_stages tree t (p ∷ []) = []
behind_stages tree t (p ∷ (q ∷ ps)) = record { words = (node_at tree p).outs; tags = t } ∷ behind_stages tree t (q ∷ ps)

widths_count : (tree : Tree) (t k : ℕ) (ps : List ℕ) → length ps ≡ suc k → length (behind_stages tree t ps) ≡ k
unfolding behind_stages
widths_count tree t k [] e = absurd (omega arith)
widths_count tree t k (p ∷ []) e = omega arith
widths_count tree t zero (p ∷ (q ∷ ps)) e = absurd (omega arith)
widths_count tree t (suc k) (p ∷ (q ∷ ps)) e = ap suc (widths_count tree t k (q ∷ ps) (omega arith))

widths_tags : (tree : Tree) (t : ℕ) (ps : List ℕ) (k : ℕ) → (get_or (behind_stages tree t ps) k no_width).tags ≤ t + 2
unfolding behind_stages
widths_tags tree t [] k = omega arith
widths_tags tree t (p ∷ []) k = omega arith
widths_tags tree t (p ∷ (q ∷ ps)) zero = omega arith
widths_tags tree t (p ∷ (q ∷ ps)) (suc k) = widths_tags tree t (q ∷ ps) k

stages_in : (u x c y k : ℕ) → slot_ins (stage_slots u x c y k) ≡ x ∷ numbers_from c k
unfolding stage_slots numbers_from
stages_in u x c y zero = refl
stages_in u x c y (suc k) = ap (λ z. x ∷ z) (stages_in (suc u) c (suc c) y k)

stages_out : (u x c y k : ℕ) → slot_outs (stage_slots u x c y k) ≡ numbers_from c k ++ y ∷ []
unfolding stage_slots numbers_from
stages_out u x c y zero = refl
stages_out u x c y (suc k) = ap (λ z. c ∷ z) (stages_out (suc u) c (suc c) y k)

pub stages_length : (u x c y k : ℕ) → length (stage_slots u x c y k) ≡ suc k
unfolding stage_slots
stages_length u x c y zero = refl
stages_length u x c y (suc k) = ap suc (stages_length (suc u) c (suc c) y k)

pub stage_part : (u x c y k v : ℕ) → v < suc k → (get_or (stage_slots u x c y k) v no_slot).part ≡ u + v
unfolding stage_slots
stage_part u x c y zero zero l = omega arith
stage_part u x c y zero (suc v) l = absurd (omega arith)
stage_part u x c y (suc k) zero l = omega arith
stage_part u x c y (suc k) (suc v) l = stage_part (suc u) c (suc c) y k v (omega arith) ∙ omega arith

-- the channels at a slot carry the words of its stage
record Fits (tree : Tree) (w : Widths) (t part i o : ℕ) : Type 0 where
  input : Carries w i (node_at tree part).ins t
  output : Carries w o (node_at tree part).outs t

later : (w : Widths) (c : ℕ) (x : Width) (xs : List Width) → Carry w c (x ∷ xs) → Carry w (suc c) xs
unfolding Carry
later w c x xs h = λ k l.
    let e : c + suc k ≡ suc c + k = omega arith in
    subst (λ z. Carries w z (get_or xs k no_width).words (get_or xs k no_width).tags) e (h (suc k) (omega arith))

module _ (tree : Tree) (w : Widths) (t : ℕ) where
  stage_fits : (u x c y k : ℕ) (i o : ℕ) (ps : List ℕ) → length ps ≡ suc k → IsChain tree i o ps → Carries w x i t →
      Carries w y o t → Carry w c (behind_stages tree t ps) → (v : ℕ) → v < suc k →
      Fits tree w t (get_or ps v 0) (get_or (stage_slots u x c y k) v no_slot).input
      (get_or (stage_slots u x c y k) v no_slot).output
  unfolding stage_slots behind_stages Carry
  stage_fits u x c y k i o [] e chain a b h v l = absurd (omega arith)
  stage_fits u x c y zero i o (p ∷ []) e chain a b h zero l = record {
    input = subst (λ z. Carries w x z t) (sym chain.1) a;
    output = subst (λ z. Carries w y z t) (sym chain.2) b;
  }
  stage_fits u x c y zero i o (p ∷ []) e chain a b h (suc v) l = absurd (omega arith)
  stage_fits u x c y (suc k) i o (p ∷ []) e chain a b h v l = absurd (omega arith)
  stage_fits u x c y zero i o (p ∷ (q ∷ ps)) e chain a b h v l = absurd (omega arith)
  stage_fits u x c y (suc k) i o (p ∷ (q ∷ ps)) e chain a b h zero l = record {
    input = subst (λ z. Carries w x z t) (sym chain.1) a;
    output = let z : c + 0 ≡ c = omega arith in subst (λ z. Carries w z (node_at tree p).outs t) z (h 0 (omega arith));
  }
  stage_fits u x c y (suc k) i o (p ∷ (q ∷ ps)) e chain a b h (suc v) l =
      let z : c + 0 ≡ c = omega arith in
      stage_fits (suc u) c (suc c) y k (node_at tree p).outs o (q ∷ ps) (omega arith) chain.2
      (subst (λ z. Carries w z (node_at tree p).outs t) z (h 0 (omega arith))) b
      (later w c _ (behind_stages tree t (q ∷ ps)) h) v (omega arith)

pub pipe_typed : (tree : Tree) (node k : ℕ) → length (node_at tree node).parts ≡ suc k →
    IsChain tree (node_at tree node).ins (node_at tree node).outs (node_at tree node).parts →
    IsTypedShape tree node (pipe_shape k)
pipe_typed tree node k e chain = record {
  widths = λ t. behind_stages tree t (node_at tree node).parts;
  deeper = 0;
  shallow = omega arith;
  count = λ t base. widths_count tree t k (node_at tree node).parts e;
  tags = λ t j. widths_tags tree t (node_at tree node).parts j;
  credits = λ cap base t j l. plain_credits k cap j;
  reads = λ base c. ap (times c) (stages_in 0 base.input base.chan base.output k);
  writes = λ base c.
      let a = ap (times c) (stages_out 0 base.input base.chan base.output k) in
      let b = times_append c (numbers_from base.chan k) (base.output ∷ []) in
      let d = times_cons c base.output (numbers_from base.chan k) in
      omega (arith, a, b, d);
  inner = λ base. tt;
  procs = λ w base t s. tt;
  slots = λ w base t s v l.
      let j : v < suc k = omega (arith, l, stages_length 0 base.input base.chan base.output k) in
      let f = stage_fits tree w t 0 base.input base.chan base.output k _ _ (node_at tree node).parts e chain s.input s.output
      s.own v j in
      let part : (get_or (stage_slots 0 base.input base.chan base.output k) v no_slot).part ≡ v =
      stage_part 0 base.input base.chan base.output k v j ∙ omega arith in
      let same : t + 0 ≡ t = omega arith in
      record {
        input = subst (λ y. Carries w (get_or (stage_slots 0 base.input base.chan base.output k) v no_slot).input
            (node_at tree (part_at tree node y)).ins (t + 0)) (sym part)
            (subst (Carries w (get_or (stage_slots 0 base.input base.chan base.output k) v no_slot).input
            (node_at tree (part_at tree node v)).ins) (sym same) f.input);
        output = subst (λ y. Carries w (get_or (stage_slots 0 base.input base.chan base.output k) v no_slot).output
            (node_at tree (part_at tree node y)).outs (t + 0)) (sym part)
            (subst (Carries w (get_or (stage_slots 0 base.input base.chan base.output k) v no_slot).output
            (node_at tree (part_at tree node v)).outs) (sym same) f.output);
      };
}

pub pipe_serves : (tree : Tree) (stages node : ℕ) → IsPipeNode tree node stages → IsTypedShape tree node (pipe_shape (stages - 1))
pipe_serves tree stages node is = pipe_typed tree node (stages - 1) (omega (arith, is.parts, is.some)) is.chain

-- there is a width for each channel between stages
pub pipe_counted : (tree : Tree) (stages node t : ℕ) → IsPipeNode tree node stages →
    length (stage_widths tree t (node_at tree node).parts) ≡ stages - 1
pipe_counted tree stages node t is =
    let parts : List ℕ = (node_at tree node).parts in
    length-map (take (length parts - 1) parts) (λ p. outs_width tree p t)
    ∙ length-take-le (length parts - 1) parts (omega arith) ∙ omega (arith, is.parts)
