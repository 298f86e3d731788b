-- Gathers that may fire, and the steps of their firing.
use Rattle.std.proofs.Common.{◌≡◌, ℕ, ◌<◌, true, false, cond, List, [], ◌∷◌, length, Some, None, slice_get, sym, ap, ◌∙◌, subst, arith}
use Rattle.std.specs.List.{AllByRecursion}
use Rattle.std.proofs.lemmas.Bool.{cond-true, cond-false, ltb-true}
use Rattle.p3l_base.specs.declared.outcome.Outcome.{Outcome}
use Rattle.p3l_base.specs.Cut.{HasLawfulOuts, element_count, element_size}
use Rattle.p3l_skel.specs.declared.tree.Form.{Form}
use Rattle.p3l_skel.specs.Tree.{node_at, part_at, HasLength}
use Rattle.p3l_firing.specs.declared.process.Proc.{Proc}
use Rattle.p3l_firing.specs.declared.process.ProcKind.TheVariants.{Gather}
use Rattle.p3l_firing.specs.declared.token.Token.{Token}
use Rattle.p3l_firing.specs.Lists.{has_first, first_or}
use Rattle.p3l_firing.specs.Token.{credit, bodies}
use Rattle.p3l_firing.specs.Nodes.{Leaf, cut_of, joined_of, last_element}
use Rattle.p3l_firing.specs.State.{own_at, gathering, released, pop, push, set_own}
use Rattle.p3l_firing.specs.Process.{out_of}
use Rattle.p3l_firing.specs.Widths.{HasWidth}
use Rattle.p3l_firing.specs.Fire.{row_can, row_fire}
use Rattle.p3l_firing.specs.kinds.Gather.{line_of, is_full, whole_sent, Fits, Keeps}
use Rattle.p3l_firing.specs.kinds.Gather as row
use Rattle.p3l_firing.proofs.LawfulForms.{map_part}
use Rattle.p3l_firing.proofs.Places.{first_in}
use Rattle.p3l_firing.proofs.row.Gather.{line_among}
use Rattle.p3l_firing.proofs.row.Scatter.{some_workers}
use Rattle.p3l_net.specs.Channel.{tokens_at}
use Rattle.p3l_net.specs.Forms.{IsMap}
use Rattle.p3l_net.specs.Machine.{Seen, Stands, state_of}
use Rattle.p3l_net.specs.Steps.{CanTake, CanPut, Done, MayFire, ready_at, room_at}
use Rattle.p3l_net.proofs.StepLaw.{Step, Step.Take, Step.Put, Step.Keep, seen_after, state_after, done_as}
use Rattle.p3l_net.proofs.Standing.{here, is_kind, fits_as, keeps_as, reads_there, writes_there, own_there, own_less, ready_as, can_take, can_put, room-seen}
use Rattle.p3l_net.proofs.step.Scatter.{some_product}

-- the tokens held are of these widths
all_bodies : (w t n : ℕ) → w ≡ n → (tokens : List Token) → AllByRecursion (HasWidth w t) tokens → AllByRecursion (λ (token : Token). HasLength n token.body) tokens
all_bodies w t n same [] all = tt
all_bodies w t n same (token ∷ tokens) all = (subst (λ k. HasLength k token.body) same all.0.words, all_bodies w t n same tokens all.1)

module _ {m : Seen} {p : ℕ} {q : Proc} (h : Stands m p q) (kind : q.kind ≡ Gather) where
  pub fits_gather : Fits m.tree h.sound.typed.widths q
  fits_gather = fits_as h Gather kind

  pub out_there : out_of q 0 < length m.queues
  out_there = writes_there h (out_of q 0) (first_in q.outs fits_gather.outs)

  pub some_ins : 0 < length q.ins
  some_ins = some_workers (node_at m.tree q.node).form (length q.ins) fits_gather.form fits_gather.count

  pub line_there : line_of (own_at m.owns p) q < length m.queues
  line_there = reads_there h (line_of (own_at m.owns p) q) (line_among (own_at m.owns p) q fits_gather)

  pub is_map : IsMap (node_at m.tree q.node).form
  is_map = subst IsMap (sym fits_gather.form) tt

  pub is_ready : ready_at m p ≡ cond (is_full m.tree (own_at m.owns p) q) (room_at m (out_of q 0)) (has_first (tokens_at m.queues (line_of (own_at m.owns p) q)))
  unfolding row_can row.can state_of
  is_ready =
      ready_as h Gather kind
      ∙ ap (λ b. cond (is_full m.tree (own_at m.owns p) q) b (has_first (tokens_at m.queues (line_of (own_at m.owns p) q)))) (sym (room-seen m h.sound (out_of q 0)))

  -- the cut of its node is lawful
  pub cut_outs : HasLawfulOuts (cut_of (node_at m.tree q.node).form)
  cut_outs =
      let fits = fits_gather in
      subst (λ (f : Form). HasLawfulOuts (cut_of f)) (sym fits.form) (map_part m.tree h.sound.typed.lawful q.node fits.node fits.form).cuts.lawful_outs

  -- it holds results of its elements
  pub held_sized : AllByRecursion (λ (token : Token). HasLength (element_size (cut_of (node_at m.tree q.node).form).outs) token.body) (own_at m.owns p).held
  held_sized =
      let fits = fits_gather in
      let cuts = (map_part m.tree h.sound.typed.lawful q.node fits.node fits.form).cuts in
      all_bodies (node_at m.tree (part_at m.tree q.node 0)).outs (h.sound.typed.widths.tags (out_of q 0)) (element_size (cut_of (node_at m.tree q.node).form).outs)
      (sym (ap (λ (f : Form). element_size (cut_of f).outs) fits.form ∙ cuts.part_outs_fit))
      (own_at m.owns p).held (keeps_as h Gather kind).held

  -- it holds the results of all elements if it is full
  module _ (full : is_full m.tree (own_at m.owns p) q ≡ true) where
    pub held_all : length (own_at m.owns p).held ≡ element_count (cut_of (node_at m.tree q.node).form)
    unfolding is_full last_element
    held_all =
        let lawful = cut_outs in
        let some = some_product (cut_of (node_at m.tree q.node).form).first (cut_of (node_at m.tree q.node).form).second lawful.some_first lawful.some_second in
        let more = ltb-true _ _ full in
        let few = (keeps_as h Gather kind).few in
        omega (arith, some, more, few)

    pub held_some : 0 < length (own_at m.owns p).held
    unfolding is_full
    held_some = let more = ltb-true _ _ full in omega (arith, more)

module _ {m : Seen} {p : ℕ} {q : Proc} (may : MayFire m p Gather) (stands : slice_get m.net.procs p ≡ Some q) where
  h : Stands m p q
  h = here may stands

  kind : q.kind ≡ Gather
  kind = is_kind may stands

  module _ (full : is_full m.tree (own_at m.owns p) q ≡ true) where
    pub puts : CanPut m (out_of q 0)
    puts =
        can_put h (out_of q 0) (first_in q.outs (fits_gather h kind).outs)
        (sym (room-seen m h.sound (out_of q 0)) ∙ sym (cond-true _ _ _ full) ∙ sym (is_ready h kind) ∙ may.ready)

    -- the whole that is sent
    abbrev pub sent : Token
    sent = record { tags = (first_or credit (own_at m.owns p).held).tags; body = joined_of m.tree q.node (bodies (own_at m.owns p).held) }

    abbrev pub sent_steps : List Step
    sent_steps = Put (out_of q 0) sent ∷ (Keep (released (own_at m.owns p)) ∷ [])

    row_sent : (leaf : Leaf) (es : List Outcome) → row_fire Gather m.tree leaf m.net (state_of m es) p (own_at m.owns p) q ≡ state_after p (state_of m es) sent_steps
    unfolding row_fire row.fire whole_sent push set_own state_of
    row_sent leaf es = cond-true (is_full m.tree (own_at m.owns p) q) _ _ full

    pub fired_sent : (leaf : Leaf) (n : Seen) → n ≡ seen_after p m sent_steps → (touched : List ℕ) → touched ≡ out_of q 0 ∷ [] → Done leaf m n p touched None
    fired_sent leaf n is touched named =
        let few = own_less h in
        done_as h sent_steps (first_in q.outs (fits_gather h kind).outs, (tt, tt)) (puts.there, ((own_there h, omega (arith, few)), tt)) leaf Gather kind (λ es. sym (row_sent leaf es)) n is touched named

  module _ (none : is_full m.tree (own_at m.owns p) q ≡ false) where
    pub takes : CanTake m (line_of (own_at m.owns p) q)
    takes =
        can_take h (line_of (own_at m.owns p) q) (line_among (own_at m.owns p) q (fits_gather h kind))
        (sym (cond-false _ _ _ none) ∙ sym (is_ready h kind) ∙ may.ready)

    abbrev pub taken_steps : List Step
    taken_steps =
        Take (line_of (own_at m.owns p) q) ∷ (Keep (gathering (own_at m.owns p) (first_or credit (tokens_at m.queues (line_of (own_at m.owns p) q)))) ∷ [])

    row_taken : (leaf : Leaf) (es : List Outcome) → row_fire Gather m.tree leaf m.net (state_of m es) p (own_at m.owns p) q ≡ state_after p (state_of m es) taken_steps
    unfolding row_fire row.fire pop set_own state_of
    row_taken leaf es = cond-false (is_full m.tree (own_at m.owns p) q) _ _ none

    pub fired_taken : (leaf : Leaf) (n : Seen) → n ≡ seen_after p m taken_steps → (touched : List ℕ) → touched ≡ line_of (own_at m.owns p) q ∷ [] → Done leaf m n p touched None
    fired_taken leaf n is touched named =
        let few = own_less h in
        done_as h taken_steps (line_among (own_at m.owns p) q (fits_gather h kind), (tt, tt)) (takes.there, ((own_there h, omega (arith, few)), tt)) leaf Gather kind (λ es. sym (row_taken leaf es)) n is touched named
