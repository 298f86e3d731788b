-- Scatters that may fire, and the steps of their firing.
use Rattle.std.proofs.Common.{◌≡◌, ℕ, ◌+◌, ◌-◌, ◌*◌, ◌^◌, ◌<◌, ◌≤◌, Bool, true, false, cond, nat_lt, List, [], ◌∷◌, length, Some, None, slice_get, refl, sym, ap, ◌∙◌, subst, arith}
use Rattle.std.proofs.lemmas.Bool.{cond-true, cond-false}
use Rattle.p3l_base.specs.declared.outcome.Outcome.{Outcome}
use Rattle.p3l_base.specs.declared.outcome.Outcome.TheVariants.{Value, Trapped}
use Rattle.p3l_base.specs.Cut.{HasLawfulIns, element_count}
use Rattle.p3l_skel.specs.declared.tree.Form.{Form}
use Rattle.p3l_skel.specs.Tree.{node_at, HasLength}
use Rattle.p3l_firing.specs.declared.process.Proc.{Proc}
use Rattle.p3l_firing.specs.declared.process.ProcKind.TheVariants.{Scatter}
use Rattle.p3l_firing.specs.declared.token.Token.{Token}
use Rattle.p3l_firing.specs.Lists.{has_first, first_or}
use Rattle.p3l_firing.specs.Token.{credit, over}
use Rattle.p3l_firing.specs.Nodes.{Leaf, cut_of, element_of, last_element}
use Rattle.p3l_firing.specs.State.{LocalState, own_at, counted, fresh, holding, pop, push, set_own}
use Rattle.p3l_firing.specs.Process.{in_of}
use Rattle.p3l_firing.specs.Widths.{FitsToken}
use Rattle.p3l_firing.specs.Fire.{row_can, row_fire}
use Rattle.p3l_firing.specs.kinds.Scatter.{line_of, after_element, element_sent, Fits, Keeps}
use Rattle.p3l_firing.specs.kinds.Scatter as row
use Rattle.p3l_firing.proofs.Fitting.{all_first}
use Rattle.p3l_firing.proofs.LawfulForms.{map_part}
use Rattle.p3l_firing.proofs.Places.{first_in}
use Rattle.p3l_firing.proofs.row.Scatter.{line_among, some_workers}
use Rattle.p3l_net.specs.Channel.{tokens_at}
use Rattle.p3l_net.specs.Forms.{IsMap}
use Rattle.p3l_net.specs.Machine.{Seen, Stands, state_of}
use Rattle.p3l_net.specs.Steps.{CanTake, CanPut, Done, IfValue, MayFire, ready_at, room_at}
use Rattle.p3l_net.proofs.StepLaw.{Step, Step.Take, Step.Put, Step.Keep, seen_after, state_after, done_as}
use Rattle.p3l_net.proofs.Standing.{here, is_kind, fits_as, keeps_as, reads_there, writes_there, own_there, own_less, ready_as, can_take, can_put, room-seen}

pub some_product : (a b : ℕ) → 1 ≤ a → 1 ≤ b → 1 ≤ a * b
some_product a b some_a some_b = grind arith

module _ {m : Seen} {p : ℕ} {q : Proc} (h : Stands m p q) (kind : q.kind ≡ Scatter) where
  pub fits_scatter : Fits m.tree h.sound.typed.widths q
  fits_scatter = fits_as h Scatter kind

  pub in_there : in_of q 0 < length m.queues
  in_there = reads_there h (in_of q 0) (first_in q.ins fits_scatter.ins)

  pub some_outs : 0 < length q.outs
  some_outs = some_workers (node_at m.tree q.node).form (length q.outs) fits_scatter.form fits_scatter.count

  pub line_there : line_of (own_at m.owns p) q < length m.queues
  line_there = writes_there h (line_of (own_at m.owns p) q) (line_among (own_at m.owns p) q fits_scatter)

  pub is_map : IsMap (node_at m.tree q.node).form
  is_map = subst IsMap (sym fits_scatter.form) tt

  pub is_ready : ready_at m p ≡ cond (has_first (own_at m.owns p).held) (room_at m (line_of (own_at m.owns p) q)) (has_first (tokens_at m.queues (in_of q 0)))
  unfolding row_can row.can state_of
  is_ready =
      ready_as h Scatter kind
      ∙ ap (λ b. cond (has_first (own_at m.owns p).held) b (has_first (tokens_at m.queues (in_of q 0)))) (sym (room-seen m h.sound (line_of (own_at m.owns p) q)))

  module _ (holds : has_first (own_at m.owns p).held ≡ true) where
    -- the element that it sends next is there
    pub element_there : (own_at m.owns p).number < element_count (cut_of (node_at m.tree q.node).form)
    unfolding last_element
    element_there =
        let fits = fits_scatter in
        let lawful = (map_part m.tree h.sound.typed.lawful q.node fits.node fits.form).cuts.lawful_outs in
        let some = some_product fits.cut.first fits.cut.second lawful.some_first lawful.some_second in
        let count : element_count (cut_of (node_at m.tree q.node).form) ≡ element_count fits.cut = ap (λ (f : Form). element_count (cut_of f)) fits.form in
        let less = (keeps_as h Scatter kind).number holds in
        omega (arith, some, count, less)

    -- the token that it holds has what the cut needs
    pub cut_fits : IfValue (first_or credit (own_at m.owns p).held).body (λ words. HasLawfulIns (cut_of (node_at m.tree q.node).form) (length words))
    cut_fits =
        let fits = fits_scatter in
        let token = all_first (FitsToken h.sound.typed.widths (in_of q 0)) credit (own_at m.owns p).held holds (keeps_as h Scatter kind).held in
        let lawful = (map_part m.tree h.sound.typed.lawful q.node fits.node fits.form).cuts.lawful_ins in
        by_value (first_or credit (own_at m.owns p).held).body token.words fits.takes (subst (λ (f : Form). HasLawfulIns (cut_of f) (node_at m.tree q.node).ins) (sym fits.form) lawful)
      where
        by_value : (body : Outcome) → HasLength (h.sound.typed.widths.words (in_of q 0)) body → h.sound.typed.widths.words (in_of q 0) ≡ (node_at m.tree q.node).ins → HasLawfulIns (cut_of (node_at m.tree q.node).form) (node_at m.tree q.node).ins → IfValue body (λ words. HasLawfulIns (cut_of (node_at m.tree q.node).form) (length words))
        by_value (Value words) long takes lawful = subst (HasLawfulIns (cut_of (node_at m.tree q.node).form)) (sym (long ∙ takes)) lawful
        by_value (Trapped trap) long takes lawful = tt

-- the number of what is kept after an element is small
pub small_after : (b : Bool) (o : LocalState) (n : ℕ) → o.number + 1 < n → (cond b (counted o) fresh).number < n
small_after true o n less = less
small_after false o n less = omega (arith, less)

module _ {m : Seen} {p : ℕ} {q : Proc} (may : MayFire m p Scatter) (stands : slice_get m.net.procs p ≡ Some q) where
  h : Stands m p q
  h = here may stands

  kind : q.kind ≡ Scatter
  kind = is_kind may stands

  module _ (holds : has_first (own_at m.owns p).held ≡ true) where
    pub puts : CanPut m (line_of (own_at m.owns p) q)
    puts =
        can_put h (line_of (own_at m.owns p) q) (line_among (own_at m.owns p) q (fits_scatter h kind))
        (sym (room-seen m h.sound (line_of (own_at m.owns p) q)) ∙ sym (cond-true _ _ _ holds) ∙ sym (is_ready h kind) ∙ may.ready)

    -- the element that is sent, and what is kept after it
    abbrev pub sent : Token
    sent = over (element_of m.tree q.node (own_at m.owns p).number) (first_or credit (own_at m.owns p).held)

    abbrev pub kept : LocalState
    kept = cond (nat_lt (own_at m.owns p).number (element_count (cut_of (node_at m.tree q.node).form) - 1)) (counted (own_at m.owns p)) fresh

    abbrev pub sent_steps : List Step
    sent_steps = Put (line_of (own_at m.owns p) q) sent ∷ (Keep kept ∷ [])

    row_sent : (leaf : Leaf) (es : List Outcome) → row_fire Scatter m.tree leaf m.net (state_of m es) p (own_at m.owns p) q ≡ element_sent m.tree (state_of m es) p (own_at m.owns p) q
    unfolding row_fire row.fire state_of
    row_sent leaf es = cond-true (has_first (own_at m.owns p).held) _ _ holds

    sent_is : (es : List Outcome) → state_after p (state_of m es) sent_steps ≡ element_sent m.tree (state_of m es) p (own_at m.owns p) q
    unfolding element_sent after_element last_element push set_own state_of
    sent_is es = refl

    pub fired_sent : (leaf : Leaf) (n : Seen) → n ≡ seen_after p m sent_steps → (touched : List ℕ) → touched ≡ line_of (own_at m.owns p) q ∷ [] → Done leaf m n p touched None
    fired_sent leaf n is touched named =
        done_as h sent_steps (line_among (own_at m.owns p) q (fits_scatter h kind), (tt, tt)) (puts.there, ((own_there h, small_after _ (own_at m.owns p) (m.fired + 1 + 2 ^ 63) (own_less h)), tt)) leaf Scatter kind (λ es. sent_is es ∙ sym (row_sent leaf es)) n is touched named

  module _ (none : has_first (own_at m.owns p).held ≡ false) where
    pub takes : CanTake m (in_of q 0)
    takes = can_take h (in_of q 0) (first_in q.ins (fits_scatter h kind).ins) (sym (cond-false _ _ _ none) ∙ sym (is_ready h kind) ∙ may.ready)

    abbrev pub taken_steps : List Step
    taken_steps = Take (in_of q 0) ∷ (Keep (holding (first_or credit (tokens_at m.queues (in_of q 0)))) ∷ [])

    row_taken : (leaf : Leaf) (es : List Outcome) → row_fire Scatter m.tree leaf m.net (state_of m es) p (own_at m.owns p) q ≡ state_after p (state_of m es) taken_steps
    unfolding row_fire row.fire pop set_own state_of
    row_taken leaf es = cond-false (has_first (own_at m.owns p).held) _ _ none

    pub fired_taken : (leaf : Leaf) (n : Seen) → n ≡ seen_after p m taken_steps → (touched : List ℕ) → touched ≡ in_of q 0 ∷ [] → Done leaf m n p touched None
    fired_taken leaf n is touched named =
        done_as h taken_steps (first_in q.ins (fits_scatter h kind).ins, (tt, tt)) (takes.there, ((own_there h, omega arith), tt)) leaf Scatter kind (λ es. sym (row_taken leaf es)) n is touched named
