-- Runs that may fire, and the steps of their firing.
use Rattle.std.proofs.Common.{◌≡◌, ℕ, ◌<◌, ◌&&◌, true, List, [], ◌∷◌, length, None, refl, sym, ap, ◌∙◌, subst}
use Rattle.std.proofs.lemmas.Bool.{and_parts}
use Rattle.p3l_base.specs.declared.outcome.Outcome.{Outcome}
use Rattle.p3l_base.specs.declared.outcome.Outcome.TheVariants.{Value, Trapped}
use Rattle.p3l_base.specs.declared.outcome.Trap.{Trap}
use Rattle.p3l_firing.specs.declared.token.Token.{Token}
use Rattle.p3l_skel.specs.Tree.{node_at, HasFittingLength, HasLength, IsUnit}
use Rattle.p3l_skel.proofs.Depth.{lawful_at}
use Rattle.p3l_firing.specs.declared.process.Proc.{Proc}
use Rattle.p3l_firing.specs.declared.process.ProcKind.TheVariants.{Run}
use Rattle.p3l_firing.specs.Lists.{has_first, first_or}
use Rattle.p3l_firing.specs.Token.{credit, over}
use Rattle.p3l_firing.specs.Nodes.{Leaf, outcome_of}
use Rattle.p3l_firing.specs.State.{pop, push}
use Rattle.p3l_firing.specs.Process.{Has, in_of, out_of}
use Rattle.p3l_firing.specs.Fire.{row_can, row_fire}
use Rattle.p3l_firing.specs.kinds.Run.{Takes, Fits}
use Rattle.p3l_firing.specs.kinds.Run as row
use Rattle.p3l_firing.proofs.Places.{first_in}
use Rattle.p3l_firing.proofs.Sequential.{run_is_unit}
use Rattle.p3l_firing.proofs.row.Run.{takes_fits}
use Rattle.p3l_net.specs.Channel.{tokens_at}
use Rattle.p3l_net.specs.declared.descriptor.Descriptor.{Descriptor}
use Rattle.p3l_net.specs.Descriptor.{IsRun, descriptor_of}
use Rattle.p3l_net.specs.Machine.{IsSound, Seen, Stands, state_of}
use Rattle.p3l_net.specs.Steps.{CanTake, CanPut, Done, IfValue, ready_at, room_at}
use Rattle.p3l_net.proofs.StepLaw.{Step, Step.Take, Step.Put, seen_after, done_as}
use Rattle.p3l_net.proofs.Standing.{standing, fits_as, reads_there, writes_there, ready_as, can_take, can_put, first_fits, room-seen}

-- a function that keeps a trap as it is keeps a token that carries it
pub stays : (makes : Outcome → Outcome) (token : Token) (trap : Trap) → token.body ≡ Trapped trap → makes (Trapped trap) ≡ Trapped trap → token ≡ over makes token
stays makes token trap is keeps = ap (λ (body : Outcome). record token { body = body }) (is ∙ sym keeps ∙ ap makes (sym is))

-- the steps of the firing of a run
abbrev pub steps : Seen → Descriptor → Leaf → List Step
steps m d leaf = Take d.input ∷ (Put d.output (over (outcome_of m.tree leaf d.node) (first_or credit (tokens_at m.queues d.input))) ∷ [])

-- a run, on its process
module _ {m : Seen} {p : ℕ} {q : Proc} (h : Stands m p q) (kind : q.kind ≡ Run) where
  fits_run : Fits m.tree h.sound.typed.widths q
  fits_run = fits_as h Run kind

  ready_of : ready_at m p ≡ (has_first (tokens_at m.queues (in_of q 0)) && room_at m (out_of q 0))
  unfolding row_can row.can state_of
  ready_of = ready_as h Run kind ∙ ap (λ b. has_first (tokens_at m.queues (in_of q 0)) && b) (sym (room-seen m h.sound (out_of q 0)))

  module _ (ready : ready_at m p ≡ true) where
    both : (has_first (tokens_at m.queues (in_of q 0)) ≡ true) × (room_at m (out_of q 0) ≡ true)
    both = and_parts _ _ (sym ready_of ∙ ready)

    takes_of : CanTake m (in_of q 0)
    takes_of = can_take h (in_of q 0) (first_in q.ins fits_run.ins) both.0

    puts_of : CanPut m (out_of q 0)
    puts_of = can_put h (out_of q 0) (first_in q.outs fits_run.outs) (sym (room-seen m h.sound (out_of q 0)) ∙ both.1)

    unit_of : IsUnit m.tree q.node
    unit_of = run_is_unit m.tree h.sound.typed.lawful q.node (node_at m.tree q.node).ins q.arg (h.sound.typed.widths.words (in_of q 0)) fits_run.node fits_run.takes

    fitting_of : IfValue (first_or credit (tokens_at m.queues (in_of q 0))).body (λ words. HasFittingLength m.tree q.node (length words))
    fitting_of = by_value (first_or credit (tokens_at m.queues (in_of q 0))).body (first_fits h (in_of q 0) both.0).words
      where
        by_value : (body : Outcome) → HasLength (h.sound.typed.widths.words (in_of q 0)) body → IfValue body (λ words. HasFittingLength m.tree q.node (length words))
        by_value (Value words) long =
            let node = lawful_at m.tree h.sound.typed.lawful q.node fits_run.node in
            takes_fits m.tree (node_at m.tree q.node).form (node_at m.tree q.node).ins (node_at m.tree q.node).outs q.arg (length words) (node_at m.tree q.node).parts node.ins node.form
            (subst (Takes (node_at m.tree q.node).form (node_at m.tree q.node).ins q.arg) (sym long) fits_run.takes)
        by_value (Trapped trap) long = tt

    fired_of : (leaf : Leaf) (n : Seen) → n ≡ seen_after p m (steps m (descriptor_of q) leaf) → Done leaf m n p (in_of q 0 ∷ (out_of q 0 ∷ [])) None
    unfolding row_fire row.fire pop push state_of
    fired_of leaf n is = done_as h (steps m (descriptor_of q) leaf) (first_in q.ins fits_run.ins, (tt, (first_in q.outs fits_run.outs, (tt, tt)))) (takes_of.there, (puts_of.there, tt)) leaf Run kind (λ es. refl) n is _ refl

-- a run, on its descriptor; and its process
module _ {m : Seen} {p : ℕ} {d : Descriptor} (sound : IsSound m) (run : IsRun m.net p d) where
  abbrev pub process : Proc
  process = run.described.process

  stands_so : Stands m p process
  stands_so = standing sound run.described.stands

  pub is_kind : process.kind ≡ Run
  is_kind = ap (λ (x : Descriptor). x.kind) (sym run.described.described) ∙ run.kind

  -- a fact on the descriptor of its process is one on its own
  as_described : (P : Descriptor → Type 0) → P (descriptor_of process) → P d
  as_described P fact = subst P (sym run.described.described) fact

  pub reads_input : Has process.ins d.input
  reads_input = as_described (λ x. Has process.ins x.input) (first_in process.ins (fits_run stands_so is_kind).ins)

  pub writes_output : Has process.outs d.output
  writes_output = as_described (λ x. Has process.outs x.output) (first_in process.outs (fits_run stands_so is_kind).outs)

  pub in_there : d.input < length m.queues
  in_there = reads_there stands_so d.input reads_input

  pub out_there : d.output < length m.queues
  out_there = writes_there stands_so d.output writes_output

  pub is_ready : ready_at m p ≡ (has_first (tokens_at m.queues d.input) && room_at m d.output)
  is_ready = as_described (λ x. ready_at m p ≡ (has_first (tokens_at m.queues x.input) && room_at m x.output)) (ready_of stands_so is_kind)

  module _ (ready : ready_at m p ≡ true) where
    pub takes : CanTake m d.input
    takes = as_described (λ x. CanTake m x.input) (takes_of stands_so is_kind ready)

    pub puts : CanPut m d.output
    puts = as_described (λ x. CanPut m x.output) (puts_of stands_so is_kind ready)

    pub is_unit : IsUnit m.tree d.node
    is_unit = as_described (λ x. IsUnit m.tree x.node) (unit_of stands_so is_kind ready)

    -- the token that comes has what the node takes
    pub fitting : IfValue (first_or credit (tokens_at m.queues d.input)).body (λ words. HasFittingLength m.tree d.node (length words))
    fitting =
        as_described (λ x. IfValue (first_or credit (tokens_at m.queues x.input)).body (λ words. HasFittingLength m.tree x.node (length words)))
        (fitting_of stands_so is_kind ready)

    pub fired : (leaf : Leaf) (n : Seen) → n ≡ seen_after p m (steps m d leaf) → Done leaf m n p (d.input ∷ (d.output ∷ [])) None
    fired =
        as_described (λ x. (leaf : Leaf) (n : Seen) → n ≡ seen_after p m (steps m x leaf) → Done leaf m n p (x.input ∷ (x.output ∷ [])) None)
        (fired_of stands_so is_kind ready)
