-- The stages of a pipe, one after the other: what they make of outcomes, and how often they fire.
use Rattle.std.proofs.Common.{◌≡◌, ℕ, suc, ◌+◌, ◌-◌, ◌<◌, ◌≤◌, List, [], ◌∷◌, length, slice_index, refl, sym, ap, ap₂, ◌∙◌, subst, arith}
use Rattle.std.specs.Prelude.{sum_by}
use Rattle.std.proofs.lemmas.List.Sums.{sum_by-cons}
use Rattle.p3l_base.specs.declared.outcome.Outcome.{Outcome}
use Rattle.p3l_base.specs.declared.outcome.Outcome.TheVariants.{Value, Trapped}
use Rattle.p3l_base.specs.declared.outcome.Trap.{Trap}
use Rattle.p3l_skel.specs.declared.tree.Form.TheVariants.{Pipe}
use Rattle.p3l_skel.specs.Tree.{node_at, part_at, HasLength, GivesOuts}
use Rattle.p3l_skel.specs.Item.{item, in_order}
use Rattle.p3l_skel.specs.Lawful.{IsLawfulTree, IsChain}
use Rattle.p3l_template.specs.Shape.{Role}
use Rattle.p3l_template.specs.Units.{Units, outcome_at}
use Rattle.p3l_template.specs.Pipe.{meaning_from, firings_from}
use Rattle.p3l_link.specs.Means.{Means}
use Rattle.p3l_link.proofs.NodeMeaning.{form_at, item_at, outcome-keeps}

-- the roles from v on mean these nodes, one by one
unfoldable AllMean : Units → (ℕ → Role) → ℕ → List ℕ → Type 0
AllMean units roles v [] = Unit {0}
AllMean units roles v (p ∷ ps) = Means units p (roles v).meaning × AllMean units roles (suc v) ps

all_mean : (units : Units) (roles : ℕ → Role) (v : ℕ) (ps : List ℕ) →
    ((j : ℕ) → j < length ps → Means units (slice_index ps j) (roles (v + j)).meaning) → AllMean units roles v ps
unfolding AllMean
all_mean units roles v [] h = tt
all_mean units roles v (p ∷ ps) h = (
  subst (λ n. Means units p (roles n).meaning) (let e : v + 0 ≡ v = omega arith in e) (h 0 (omega arith)),
  all_mean units roles (suc v) ps
      (λ j l. subst (λ n. Means units (slice_index ps j) (roles n).meaning) (let e : v + suc j ≡ suc v + j = omega arith in e)
      (h (suc j) (omega arith))),
)

trap_passes : (units : Units) (stages : List ℕ) (trap : Trap) →
    in_order (item units.tree units.leaf) stages (Trapped trap) ≡ Trapped trap
trap_passes units [] trap = refl
trap_passes units (p ∷ ps) trap = trap_passes units ps trap

module _ (units : Units) (lawful : IsLawfulTree units.tree) (gives : GivesOuts units.tree units.leaf) (roles : ℕ → Role) where
  through_stages : (v p : ℕ) (ps : List ℕ) (ins outs : ℕ) (o : Outcome) → IsChain units.tree ins outs (p ∷ ps) →
      AllMean units roles v (p ∷ ps) → HasLength ins o →
      meaning_from roles v (length ps) o ≡ in_order (item units.tree units.leaf) (p ∷ ps) o
  unfolding meaning_from AllMean
  through_stages v p [] ins outs o chain all long = all.0.same o (subst (λ n. HasLength n o) (sym chain.1) long)
  through_stages v p (q ∷ ps) ins outs o chain all long =
      let here : HasLength (node_at units.tree p).ins o = subst (λ n. HasLength n o) (sym chain.1) long in
      ap (meaning_from roles (suc v) (length ps)) (all.0.same o here)
      ∙ through_stages (suc v) q ps (node_at units.tree p).outs outs (outcome_at units p o) chain.2 all.1
      (outcome-keeps units lawful p chain.0 gives o here)

  stages_mean : (ins outs : ℕ) (parts : List ℕ) (o : Outcome) → 1 ≤ length parts → IsChain units.tree ins outs parts →
      ((j : ℕ) → j < length parts → Means units (slice_index parts j) (roles j).meaning) → HasLength ins o →
      meaning_from roles 0 (length parts - 1) o ≡ in_order (item units.tree units.leaf) parts o
  stages_mean ins outs [] o some chain each long = absurd (omega arith)
  stages_mean ins outs (p ∷ ps) o some chain each long =
      let e : length (p ∷ ps) - 1 ≡ length ps = omega arith in
      ap (λ n. meaning_from roles 0 n o) e
      ∙ through_stages 0 p ps ins outs o chain
      (all_mean units roles 0 (p ∷ ps)
      (λ j l. subst (λ n. Means units (slice_index (p ∷ ps) j) (roles n).meaning) (let z : j ≡ 0 + j = omega arith in z)
      (each j l)))
      long

  pipe_outcome : (node : ℕ) → node < length units.tree.nodes → (node_at units.tree node).form ≡ Pipe → (o : Outcome) →
      in_order (item units.tree units.leaf) (node_at units.tree node).parts o ≡ outcome_at units node o
  pipe_outcome node inside is (Trapped trap) = trap_passes units (node_at units.tree node).parts trap
  pipe_outcome node inside is (Value words) = sym (item_at units lawful node inside Pipe words is)

  pub pipe_means : (node : ℕ) → node < length units.tree.nodes → (node_at units.tree node).form ≡ Pipe →
      ((j : ℕ) → j < length (node_at units.tree node).parts → Means units (part_at units.tree node j) (roles j).meaning) →
      Means units node (meaning_from roles 0 (length (node_at units.tree node).parts - 1))
  pipe_means node inside is each =
      let form = form_at units lawful node inside Pipe is in
      record {
        same = λ o long.
            stages_mean (node_at units.tree node).ins (node_at units.tree node).outs
            (node_at units.tree node).parts o form.0 form.1 each long
            ∙ pipe_outcome node inside is o;
      }

-- the roles from v on fire as often as is said of these nodes, one by one
unfoldable AllFire : (ℕ → Role) → (ℕ → ℕ) → ℕ → List ℕ → Type 0
AllFire roles below v [] = Unit {0}
AllFire roles below v (p ∷ ps) = ((roles v).firings ≡ below p) × AllFire roles below (suc v) ps

all_fire : (roles : ℕ → Role) (below : ℕ → ℕ) (v : ℕ) (ps : List ℕ) →
    ((j : ℕ) → j < length ps → (roles (v + j)).firings ≡ below (slice_index ps j)) → AllFire roles below v ps
unfolding AllFire
all_fire roles below v [] h = tt
all_fire roles below v (p ∷ ps) h = (
  subst (λ n. (roles n).firings ≡ below p) (let e : v + 0 ≡ v = omega arith in e) (h 0 (omega arith)),
  all_fire roles below (suc v) ps
      (λ j l. subst (λ n. (roles n).firings ≡ below (slice_index ps j)) (let e : v + suc j ≡ suc v + j = omega arith in e)
      (h (suc j) (omega arith))),
)

summed : (roles : ℕ → Role) (below : ℕ → ℕ) (v p : ℕ) (ps : List ℕ) → AllFire roles below v (p ∷ ps) →
    firings_from roles v (length ps) ≡ sum_by below (p ∷ ps)
unfolding AllFire firings_from
summed roles below v p [] all = ap (λ n. n + 0) all.0 ∙ omega (arith, sum_by-cons below p [])
summed roles below v p (q ∷ ps) all =
    ap₂ (λ a b. a + b) all.0 (summed roles below (suc v) q ps all.1) ∙ sym (sum_by-cons below p (q ∷ ps))

-- a pipe fires as often as its stages do in all
pub pipe_fires : (roles : ℕ → Role) (below : ℕ → ℕ) (parts : List ℕ) → 1 ≤ length parts →
    ((j : ℕ) → j < length parts → (roles j).firings ≡ below (slice_index parts j)) →
    firings_from roles 0 (length parts - 1) ≡ sum_by below parts
pipe_fires roles below [] some each = absurd (omega arith)
pipe_fires roles below (p ∷ ps) some each =
    let e : length (p ∷ ps) - 1 ≡ length ps = omega arith in
    ap (firings_from roles 0) e
    ∙ summed roles below 0 p ps
    (all_fire roles below 0 (p ∷ ps)
    (λ j l. subst (λ n. (roles n).firings ≡ below (slice_index (p ∷ ps) j)) (let z : j ≡ 0 + j = omega arith in z) (each j l)))
