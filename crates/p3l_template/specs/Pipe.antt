-- The template of a pipe: no process, and a channel between each two stages.
use Rattle.std.specs.Prelude.{ℕ, zero, suc, ◌+◌, ◌*◌, List, [], ◌∷◌, ◌++◌, map, length, replicate}
use Rattle.p3l_base.specs.declared.outcome.Outcome.{Outcome}
use Rattle.p3l_firing.specs.declared.token.Token.{Token}
use Rattle.p3l_firing.specs.Token.{over}
use Rattle.p3l_template.specs.Shape.{empty_chan}
use Rattle.p3l_firing.specs.State.{State}
use Rattle.p3l_template.specs.Part.{Part, all_orderly}
use Rattle.p3l_template.specs.Placed.{proc_end, chan_end}
use Rattle.p3l_template.specs.Shape.{Blueprint, Role, Base, Slot}

-- the slots of the stages from v on: from channel x, over the channels from c on, to channel y; k stages follow the first
unfoldable pub stage_slots : ℕ → ℕ → ℕ → ℕ → ℕ → List Slot
stage_slots v x c y zero = record { input = x; output = y; part = v } ∷ []
stage_slots v x c y (suc k) = record { input = x; output = c; part = v } ∷ stage_slots (suc v) c (suc c) y k

-- the outcome after part v and the k parts after it, one after the other
unfoldable pub meaning_from : (ℕ → Role) → ℕ → ℕ → Outcome → Outcome
meaning_from roles v zero outcome = (roles v).meaning outcome
meaning_from roles v (suc k) outcome = meaning_from roles (suc v) k ((roles v).meaning outcome)

-- the firings of part v and of the k parts after it
unfoldable pub firings_from : (ℕ → Role) → ℕ → ℕ → ℕ
firings_from roles v zero = (roles v).firings + 0
firings_from roles v (suc k) = (roles v).firings + firings_from roles (suc v) k

-- the firings that the stages owe if b tokens are still to pass the first: for each stage its own, and its firings for each
-- token in the channels before it and pending in the stages before it
unfoldable pub stages_due : State → ℕ → List Part → ℕ
stages_due s b [] = 0
stages_due s b (P ∷ Ps) =
    (P.firings * b + P.owed s) + stages_due s (length (s.tokens P.output) + (length (P.pending s) + b)) Ps

-- the outcome after all stages, one after the other
unfoldable pub through : List Part → Outcome → Outcome
through [] outcome = outcome
through (P ∷ Ps) outcome = through Ps (P.meaning outcome)

-- the tokens still to leave the last stage, where q are to enter the first one after those in its in channel
unfoldable pub stages_pending : State → List Token → List Part → List Token
stages_pending s q [] = q
stages_pending s q (P ∷ Ps) = stages_pending s (P.pending s ++ map (over P.meaning) (s.tokens P.input ++ q)) Ps

-- the tokens still to leave the last stage, but for those before the first
unfoldable pub pipe_pending : List Part → State → List Token
pipe_pending [] s = []
pipe_pending (P ∷ Ps) s = stages_pending s (P.pending s) Ps

unfoldable pub all_firings : List Part → ℕ
all_firings [] = 0
all_firings (P ∷ Ps) = P.firings + all_firings Ps

abbrev pub pipe_part : ℕ → Base → List Part → Part
pipe_part k base stages =
    record {
      input = base.input;
      output = base.output;
      proc_from = base.proc;
      proc_to = proc_end (base.proc + 0) stages;
      chan_from = base.chan;
      chan_to = chan_end (base.chan + k) stages;
      meaning = through stages;
      pending = pipe_pending stages;
      orderly = all_orderly stages;
      firings = all_firings stages;
      owed = λ s. stages_due s 0 stages;
    }

-- the pipe in which k stages follow the first
abbrev pub pipe_shape : ℕ → Blueprint
pipe_shape k =
    record {
      procs = λ base. [];
      chans = λ base. k;
      laid = λ cap base. replicate k (empty_chan cap);
      inner = suc k;
      slots = λ base. stage_slots 0 base.input base.chan base.output k;
      meaning = λ units roles. meaning_from roles 0 k;
      firings = λ units roles. firings_from roles 0 k;
      part = λ units roles. pipe_part k;
    }
