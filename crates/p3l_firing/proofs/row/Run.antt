-- The row of a run.
use Rattle.std.proofs.Common.{◌≡◌, ℕ, ℤ, zero, suc, ◌&&◌, true, List, [], ◌∷◌, length, Some, refl, sym, ap, ap₂, subst, arith, inl, inr}
use Rattle.std.specs.List.{AllByRecursion}
use Rattle.std.proofs.lemmas.Bool.{and_parts}
use Rattle.p3l_base.specs.declared.outcome.Outcome.{Outcome}
use Rattle.p3l_base.specs.declared.outcome.Outcome.TheVariants.{Value, Trapped}
use Rattle.p3l_skel.specs.declared.tree.Form.{Form}
use Rattle.p3l_skel.specs.declared.tree.Form.TheVariants.{Seq, Comp, Pipe, Farm, Map, Reduce, Loop}
use Rattle.p3l_skel.specs.declared.tree.Tree.{Tree}
use Rattle.p3l_skel.specs.Tree.{node_at, FitsForm, HasLength, GivesOuts}
use Rattle.p3l_skel.specs.Lawful.{IsLawfulTree, IsLawfulForm, IsSize}
use Rattle.p3l_skel.proofs.Depth.{lawful_at}
use Rattle.p3l_skel.proofs.Kept.{item-keeps}
use Rattle.p3l_firing.specs.declared.process.Proc.{Proc}
use Rattle.p3l_firing.specs.declared.net.Net.{Net}
use Rattle.p3l_firing.specs.Lists.{has_first}
use Rattle.p3l_firing.specs.Token.{over}
use Rattle.p3l_firing.specs.Nodes.{Leaf, outcome_of}
use Rattle.p3l_firing.specs.State.{State, front, pop, push, with_rest}
use Rattle.p3l_firing.specs.Process.{IsAt, in_of, out_of}
use Rattle.p3l_firing.specs.Widths.{Widths, FitsToken}
use Rattle.p3l_firing.specs.Typed.{IsFitting}
use Rattle.p3l_firing.specs.kinds.Run.{can, fire, reads, Takes, Fits}
use Rattle.p3l_firing.proofs.LawfulForms.{fits_ins}
use Rattle.p3l_firing.proofs.Places.{first_in}
use Rattle.p3l_firing.proofs.Reading.{SameIn, room-same}
use Rattle.p3l_firing.proofs.WidthLaw.{fits_width}
use Rattle.p3l_firing.proofs.Fitting.{fitting-push, fitting-pop, front_fits, room-pop}

pub own_reads : (tree : Tree) (widths : Widths) (q : Proc) → Fits tree widths q → AllByRecursion (IsAt (Some q)) (reads q)
own_reads tree widths q fits = (inl (first_in q.ins fits.ins), (inr (first_in q.outs fits.outs), tt))

pub alike : (net : Net) (s t : State) (q : Proc) → SameIn s t (reads q) → can net s q ≡ can net t q
unfolding can
alike net s t q same = ap₂ (λ a b. a && b) (ap has_first same.0) (room-same net s t _ same.1.0)

pub rest_stays : (tree : Tree) (leaf : Leaf) (s : State) (rest : List (List ℤ)) (q : Proc) → fire tree leaf (with_rest s rest) q ≡ with_rest (fire tree leaf s q) rest
unfolding fire with_rest pop push
rest_stays tree leaf s rest q = refl

-- the words that a run takes are words that its node may take
pub takes_fits : (tree : Tree) (form : Form) (ins outs arg n : ℕ) (parts : List ℕ) → IsSize ins → IsLawfulForm tree form ins outs parts → Takes form ins arg n → FitsForm form ins n
takes_fits tree Seq ins outs arg n parts sized lawful takes = takes.1
takes_fits tree Comp ins outs arg n parts sized lawful takes = takes.1
takes_fits tree Pipe ins outs arg n parts sized lawful takes = absurd takes
takes_fits tree (Farm workers) ins outs arg n parts sized lawful takes = absurd takes
takes_fits tree (Map workers cut) ins outs arg n parts sized lawful takes = absurd takes
takes_fits tree (Reduce workers len elem) ins outs arg n [] sized lawful takes = absurd lawful
takes_fits tree (Reduce workers len elem) ins outs zero n (p ∷ []) sized lawful takes =
    fits_ins tree (Reduce workers len elem) ins outs n (p ∷ []) sized lawful (takes.0 refl)
takes_fits tree (Reduce workers len elem) ins outs (suc arg) n (p ∷ []) sized lawful takes = (suc arg, omega arith, takes.1 (omega arith))
takes_fits tree (Reduce workers len elem) ins outs arg n (p ∷ (r ∷ parts)) sized lawful takes = absurd lawful
takes_fits tree (Loop turns tokens) ins outs arg n parts sized lawful takes = absurd takes

module _ (tree : Tree) (leaf : Leaf) (lawful : IsLawfulTree tree) (gives : GivesOuts tree leaf) (widths : Widths) (q : Proc) (fits_q : Fits tree widths q) where
  -- the outcome of its node on a value has the node's out words
  pub run_gives : (outcome : Outcome) → HasLength (widths.words (in_of q 0)) outcome → HasLength (node_at tree q.node).outs (outcome_of tree leaf q.node outcome)
  run_gives (Value words) long =
      let node = lawful_at tree lawful q.node fits_q.node in
      let takes = subst (Takes (node_at tree q.node).form (node_at tree q.node).ins q.arg) (sym long) fits_q.takes in
      item-keeps tree leaf lawful gives q.node words fits_q.node (takes_fits tree (node_at tree q.node).form (node_at tree q.node).ins (node_at tree q.node).outs q.arg (length words) (node_at tree q.node).parts node.ins node.form takes)
  run_gives (Trapped trap) long = tt

  pub fits : (net : Net) (s : State) → IsFitting tree net widths s → can net s q ≡ true → IsFitting tree net widths (fire tree leaf s q)
  unfolding can fire
  fits net s fit h =
      let both = and_parts _ _ h in
      let token : FitsToken widths (in_of q 0) (front s (in_of q 0)) = front_fits s fit (in_of q 0) both.0 in
      fitting-push (pop s (in_of q 0)) (fitting-pop s fit (in_of q 0)) (out_of q 0) (over (outcome_of tree leaf q.node) (front s (in_of q 0)))
      (room-pop net s (in_of q 0) (out_of q 0) both.1)
      (fits_width (over (outcome_of tree leaf q.node) (front s (in_of q 0))) fits_q.gives (record { words = run_gives (front s (in_of q 0)).body token.words; tags = token.tags }))
