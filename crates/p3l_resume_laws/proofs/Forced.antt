-- The widths of a linked net that is typed are those that are surveyed: channel 0 carries the root's in words without tags, and from there
-- each node's processes force the widths of its channels and of what it gives (`piece_forced`), by one recursion on the depth.
use Rattle.std.proofs.Common.{◌≡◌, ℕ, zero, suc, ◌+◌, ◌<◌, Some, List, [], ◌∷◌, ◌++◌, length, get_or, slice_get, slice_index, refl, sym, ap, subst, subst₂, arith}
use Rattle.std.specs.List.{AllByRecursion}
use Rattle.p3l_skel.specs.declared.tree.Form.{Form}
use Rattle.p3l_skel.specs.declared.tree.Form.TheVariants.{Seq, Comp, Pipe, Farm, Map, Reduce, Loop}
use Rattle.p3l_skel.specs.declared.tree.Tree.{Tree}
use Rattle.p3l_skel.specs.Counts.{HasLawfulCounts, count_of}
use Rattle.p3l_skel.specs.Lawful.{HasOnePart, HasTwoParts, HasWords, IsLawfulForm, IsLawfulLoop, IsLawfulTree}
use Rattle.p3l_skel.specs.Tree.{node_at, part_at, nesting}
use Rattle.p3l_skel.proofs.Depth.{lawful_at}
use Rattle.p3l_firing.specs.declared.process.Proc.{Proc}
use Rattle.p3l_firing.specs.Nodes.{elem_of}
use Rattle.p3l_firing.specs.Segments.{level_of}
use Rattle.p3l_firing.specs.Single.{the_source}
use Rattle.p3l_firing.specs.Typed.{FitsKind, IsTyped}
use Rattle.p3l_firing.specs.Widths.{Carries, Widths}
use Rattle.p3l_template.specs.Kind.{Kind}
use Rattle.p3l_template.specs.Shape.{Base, Slot, Blueprint, no_slot}
use Rattle.p3l_template.specs.Width.{ins_width, outs_width}
use Rattle.p3l_template.specs.declared.width.Width.{Width}
use Rattle.p3l_reduce.specs.Reduce.{reduce_shape}
use Rattle.p3l_reduce.specs.ReduceKind.{reduce_widths}
use Rattle.p3l_link.specs.Counts.{HasOwnCount, IsCounted}
use Rattle.p3l_link.specs.Net.{Piece, base_at, inner_pieces, linked_net, piece_of, root_base, root_piece, whole_piece}
use Rattle.p3l_link.specs.Shape.{kind_at, kind_row}
use Rattle.p3l_link.proofs.Counted.{root_counted, slot_counted}
use Rattle.p3l_link.proofs.Typing.{widths_counted}
use Rattle.p3l_fitting.specs.Restoring.{AgreeOn}
use Rattle.p3l_fitting.specs.Survey.{inner_survey, linked_survey, linked_widths, node_survey}
use Rattle.p3l_fitting.specs.declared.survey.Survey.{Survey}
use Rattle.p3l_fitting.proofs.Sized.{IsSized, node_sized}
use Rattle.p3l_resume_laws.proofs.Forcing.{AllFed, AllPass, FitAll, Flows, Forces, farm_forces, loop_forces, map_forces, pipe_forces, run_forces}
use Rattle.p3l_resume_laws.proofs.ReduceForcing.{level_few, reduce_forces}
use Rattle.p3l_resume_laws.proofs.Rows.{CarryRow, all_split, row_append, row_at}

-- THE TEMPLATES

one_word : (tree : Tree) (a b : ℕ) (ps : List ℕ) → HasOnePart (λ p. HasWords tree p a b) ps → HasWords tree (slice_index ps 0) a b
one_word tree a b [] h = absurd h
one_word tree a b (p ∷ []) h = h
one_word tree a b (p ∷ (q ∷ ps)) h = absurd h

-- a loop's body has the loop's words
loop_body : (tree : Tree) (turns tokens a b : ℕ) (ps : List ℕ) → HasTwoParts (IsLawfulLoop tree turns tokens a b) ps →
    HasWords tree (slice_index ps 0) a b
loop_body tree turns tokens a b [] h = absurd h
loop_body tree turns tokens a b (p ∷ []) h = absurd h
loop_body tree turns tokens a b (p ∷ (q ∷ [])) h = let parts = h.parts in parts.turned
loop_body tree turns tokens a b (p ∷ (q ∷ (r ∷ ps))) h = absurd h

-- a kind forces its row of a node
abbrev pub IsForcedKind : Tree → ℕ → Kind → Type 0
IsForcedKind tree k kind = Forces tree k kind.shape kind.deeper (kind.widths tree k)

-- each row of the table forces what is surveyed of a node of its form
row_forced : (tree : Tree) (k n : ℕ) (f : Form) → (node_at tree k).form ≡ f →
    IsLawfulForm tree f (node_at tree k).ins (node_at tree k).outs (node_at tree k).parts → HasOwnCount f n →
    IsForcedKind tree k (kind_row f k (length (node_at tree k).parts) n)
unfolding kind_row
row_forced tree k n Seq is lawful own = run_forces tree k
row_forced tree k n Comp is lawful own = run_forces tree k
row_forced tree k n Pipe is lawful own = pipe_forces tree k lawful.0 lawful.1
row_forced tree k n (Farm w) is lawful own = farm_forces tree k n own.1.0 (one_word tree _ _ (node_at tree k).parts lawful)
row_forced tree k n (Map w cut) is lawful own = map_forces tree k n own.1.0
row_forced tree k n (Reduce w len elem) is lawful own =
    subst (λ z. Forces tree k (reduce_shape k len (level_of n)) 0 (λ t. reduce_widths z len t (outs_width tree k t) (level_of n)))
    (sym (ap elem_of is)) (reduce_forces tree k len elem w is (level_of n) (level_few 9 n))
row_forced tree k n (Loop turns tokens) is lawful own = loop_forces tree k tokens (loop_body tree turns tokens _ _ (node_at tree k).parts lawful)

kind_forced : (tree : Tree) (count : ℕ → ℕ) (k : ℕ) → IsLawfulTree tree → k < length tree.nodes →
    HasOwnCount (node_at tree k).form (count k) → IsForcedKind tree k (kind_at tree count k)
unfolding kind_at
kind_forced tree count k lawful there own =
    row_forced tree k (count k) (node_at tree k).form refl (lawful_at tree lawful k there).form own

-- NODES, WITH ALL THAT IS BELOW THEM

-- the piece of node k at a base forces this row, if tokens before it have t tags
pub record IsForced (tree : Tree) (k : ℕ) (base : Base) (t : ℕ) (F : Piece) (row : List Width) : Type 0 where
  pub forces : (w : Widths) → FitAll tree w F.procs → Carries w base.input (node_at tree k).ins t →
      CarryRow w base.chan row × Carries w base.output (node_at tree k).outs t

-- the same of the inner parts of node k at these slots, whose channels are those from c on
record AreForced (tree : Tree) (k : ℕ) (slots : List Slot) (c t : ℕ) (F : Piece) (row : List Width) : Type 0 where
  pass : (w : Widths) → FitAll tree w F.procs → AllPass tree k w t slots
  own : (w : Widths) → FitAll tree w F.procs → AllFed tree k w t slots → CarryRow w c row

inner_forced : (tree : Tree) (k t : ℕ) (f : ℕ → Base → Piece) (g : ℕ → Base → Survey) (slots : List Slot) (p c : ℕ) →
    ((v : ℕ) → v < length slots → (b : Base) →
    IsSized (f (get_or slots v no_slot).part b) (g (get_or slots v no_slot).part b)
    × IsForced tree (part_at tree k (get_or slots v no_slot).part) b t (f (get_or slots v no_slot).part b)
    (g (get_or slots v no_slot).part b).widths) →
    AreForced tree k slots c t (inner_pieces f slots p c) (inner_survey g slots p c).widths
unfolding inner_pieces inner_survey
inner_forced tree k t f g [] p c each = record {
  pass = λ w fits v low. absurd (omega (arith, low));
  own = λ w fits fed. tt;
}
inner_forced tree k t f g (x ∷ xs) p c each =
    let b : Base = base_at x p c in
    let F : Piece = f x.part b in
    let s : Survey = g x.part b in
    let sized : IsSized F s = (each 0 (omega arith) b).0 in
    let here : IsForced tree (part_at tree k x.part) b t F s.widths = (each 0 (omega arith) b).1 in
    let G : Piece = inner_pieces f xs (p + length F.procs) (c + length F.chans) in
    let more : Survey = inner_survey g xs (p + s.procs) (c + length s.widths) in
    let rest : AreForced tree k xs (c + length F.chans) t G more.widths =
    subst₂ (λ m n. AreForced tree k xs (c + length F.chans) t G (inner_survey g xs (p + m) (c + n)).widths) (sym sized.procs) (sym sized.chans)
    (inner_forced tree k t f g xs (p + length F.procs) (c + length F.chans) (λ v low b. each (suc v) (omega (arith, low)) b)) in
    record {
      pass = λ w fits.
          let both = all_split (λ (z : Proc). FitsKind z.kind tree w z) F.procs G.procs fits in
          elim [
            | zero ↦ λ low fed. (here.forces w both.0 fed).1
            | suc v ↦ λ low. rest.pass w both.1 v (omega (arith, low))
          ];
      own = λ w fits fed.
          let both = all_split (λ (z : Proc). FitsKind z.kind tree w z) F.procs G.procs fits in
          row_append w c s.widths more.widths (here.forces w both.0 (fed 0 (omega arith))).0
          (subst (λ n. CarryRow w (c + n) more.widths) (sym sized.chans)
          (rest.own w both.1 (λ v low. fed (suc v) (omega (arith, low)))));
    }

-- a kind that forces its row, round inner parts that force theirs
whole_forced : (tree : Tree) (k t more cap : ℕ) (shape : Blueprint) (f : ℕ → Base → Piece) (base : Base) (own inner : List Width) →
    length own ≡ shape.chans base →
    ((w : Widths) → FitAll tree w (shape.procs base) → AllPass tree k w (t + more) (shape.slots base) →
    Carries w base.input (node_at tree k).ins t → Flows tree k w base t more (shape.slots base) own) →
    AreForced tree k (shape.slots base) (base.chan + shape.chans base) (t + more)
    (inner_pieces f (shape.slots base) (base.proc + length (shape.procs base)) (base.chan + shape.chans base)) inner →
    IsForced tree k base t (whole_piece shape cap f base) (own ++ inner)
whole_forced tree k t more cap shape f base own inner long flows rest =
    let G : Piece = inner_pieces f (shape.slots base) (base.proc + length (shape.procs base)) (base.chan + shape.chans base) in
    record {
      forces = λ w fits input.
          let both = all_split (λ (z : Proc). FitsKind z.kind tree w z) (shape.procs base) G.procs fits in
          let flow = flows w both.0 (rest.pass w both.1) input in (
            row_append w base.chan own inner flow.own
                (subst (λ n. CarryRow w (base.chan + n) inner) (sym long) (rest.own w both.1 flow.fed)),
            flow.output,
          );
    }

pub piece_forced : (tree : Tree) (count : ℕ → ℕ) (cap : ℕ) → IsLawfulTree tree → (d k t : ℕ) (base : Base) →
    IsCounted tree count d k → IsForced tree k base t (piece_of tree count cap d k base) (node_survey tree count d k t base).widths
unfolding piece_of node_survey IsCounted
piece_forced tree count cap lawful zero k t base h = absurd h
piece_forced tree count cap lawful (suc d) k t base h =
    let kind : Kind = kind_at tree count k in
    let own : List Width = kind.widths tree k t in
    let more : ℕ = t + kind.deeper in
    let f : ℕ → Base → Piece = λ v. piece_of tree count cap d (part_at tree k v) in
    let g : ℕ → Base → Survey = λ v. node_survey tree count d (part_at tree k v) more in
    let slots : List Slot = kind.shape.slots base in
    let p : ℕ = base.proc + length (kind.shape.procs base) in
    let long : length own ≡ kind.shape.chans base = widths_counted tree count k lawful h.0 h.1 t base in
    let below : (v : ℕ) → v < length slots → IsCounted tree count d (part_at tree k (get_or slots v no_slot).part) =
    (λ v low. slot_counted tree count k lawful h.0 base v low d h) in
    let inner = inner_forced tree k more f g slots p (base.chan + kind.shape.chans base) (λ v low b. (
      node_sized tree count cap lawful d _ more b (below v low),
      piece_forced tree count cap lawful d _ more b (below v low),
    )) in
    whole_forced tree k t kind.deeper cap kind.shape f base own _ long
    (λ w fits pass input. kind_forced tree count k lawful h.0 h.1 w base t fits pass input)
    (subst (λ n. AreForced tree k slots (base.chan + kind.shape.chans base) more (inner_pieces f slots p (base.chan + kind.shape.chans base))
    (inner_survey g slots p (base.chan + n)).widths) (sym long) inner)

-- THE WHOLE NET

all_from : {A : Type 0} (P : A → Type 0) (xs : List A) → ((p : ℕ) (x : A) → slice_get xs p ≡ Some x → P x) → AllByRecursion P xs
all_from P [] each = tt
all_from P (x ∷ xs) each = (each 0 x refl, all_from P xs (λ p y at. each (suc p) y at))

pub net_forced : (tree : Tree) (counts : List ℕ) (cap : ℕ) (typed : IsTyped tree (linked_net tree counts cap)) →
    HasLawfulCounts tree counts → AgreeOn (length (linked_net tree counts cap).chans) (linked_widths tree counts) typed.widths
unfolding linked_net root_piece linked_survey
net_forced tree counts cap typed lawfully c low =
    let w : Widths = typed.widths in
    let F : Piece = root_piece tree counts cap in
    let rows : List Width = (node_survey tree (count_of tree counts) nesting 0 0 root_base).widths in
    let counted = root_counted tree counts typed.lawful lawfully in
    let root : IsForced tree 0 root_base 0 F rows = piece_forced tree (count_of tree counts) cap typed.lawful nesting 0 0 root_base counted in
    let first : Carries w 0 (node_at tree 0).ins 0 = (typed.processes 0 the_source refl).gives in
    let fits : FitAll tree w F.procs = all_from (λ (q : Proc). FitsKind q.kind tree w q) F.procs (λ p q at. typed.processes (suc (suc p)) q at) in
    let both = root.forces w fits first in
    let all : List Width = ins_width tree 0 0 ∷ (outs_width tree 0 0 ∷ rows) in
    let row : CarryRow w 0 all = (first, (both.1, both.0)) in
    let many : length rows ≡ length F.chans = (node_sized tree (count_of tree counts) cap typed.lawful nesting 0 0 root_base counted).chans in
    let e : 0 + c ≡ c = omega arith in
    subst (λ z. Carries w z ((linked_widths tree counts).words c) ((linked_widths tree counts).tags c)) e
    (row_at w 0 all c row (omega (arith, low, many)))
