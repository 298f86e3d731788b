-- The network of an image that was made of a program is the program's.
use Rattle.std.proofs.Common.{◌≡◌, ◌↔◌, ℕ, Bool, List, [], Option, Some, None, refl, sym, ap, ◌∙◌, subst, append-nil}
use Rattle.p3l_io.specs.Content.{Held}
use Rattle.p3l_skel.specs.Numbers.{firings}
use Rattle.p3l_body_laws.specs.Served.{ResolvedServe}
use Rattle.p3l_compile.specs.Leaves.{AreBodies}
use Rattle.p3l_compile.proofs.Leaves.{same_leaf}
use Rattle.p3l_load.specs.Compiled.{image_of}
use Rattle.p3l_image.specs.declared.image.Image.{Image}
use Rattle.p3l_image.specs.Image.{ImageBeginsNoOther}
use Rattle.p3l_image.specs.laws.Image.{written_spells}
use Rattle.p3l_link.specs.Net.{linked_net}
use Rattle.p3l_load.specs.Load.{loaded_of}
use Rattle.p3l_opts.specs.declared.command.Build.{Build}
use Rattle.p3l_opts.specs.declared.command.Sched.{Sched}
use Rattle.p3l_report.specs.declared.stats.Stats.{Stats}
use Rattle.p3l_run.specs.declared.end.RunStats.{RunStats}
use Rattle.p3l_report.specs.declared.verdict.Finish.{Finish}
use Rattle.p3l_run.specs.Network.{Network, network}
use Rattle.p3l_program.specs.Alike.{EveryImageHasItsProgramsNetwork, EveryImageRunsAsItsProgram}
use Rattle.p3l_program.specs.Plan.{HasCostText, HasNetwork, IsAllotted, network_in, network_of}
use Rattle.p3l_program.specs.Compile.{IsImageOf}
use Rattle.p3l_program.specs.File.{HasText, text_limit}
use Rattle.p3l_program.specs.Image.{IsRunnableImage, image_limit}
use Rattle.p3l_program.specs.Origin.{Origin, built, imaged}
use Rattle.p3l_program.specs.Run.{BeginsRun, Emits, EndsRun, IsRunStatus, RunsOver, RunsWhole}
use Rattle.p3l_program.specs.World.{World}
use Rattle.p3l_program.proofs.OnceSteps.{allotted_once}

-- one text is held under a name
pub held_once : (held : Held) (limit : ℕ) (name text other : List ℕ) → HasText (Some held) limit name text → HasText (Some held) limit name other → text ≡ other
held_once held limit name text other one two = let a = one.holds in let b = two.holds in cc

pub costs_once : (held : Held) (name said other : Option (List ℕ)) → HasCostText (Some held) name said → HasCostText (Some held) name other → said ≡ other
costs_once held None None None one two = refl
costs_once held None None (Some b) one two = absurd two
costs_once held None (Some a) other one two = absurd one
costs_once held (Some name) None other one two = absurd one
costs_once held (Some name) (Some a) None one two = absurd two
costs_once held (Some name) (Some a) (Some b) one two = ap Some (held_once held text_limit name a b one two)

module _ (serve : ResolvedServe) (begins : ImageBeginsNoOther) (held others : Held) (build : Build) (name bytes : List ℕ) (own : IsImageOf (Some held) build bytes)
    (there : HasText (Some others) image_limit name bytes) where
  the_image : Image
  the_image = image_of own.r.tree own.counts own.codes build.capacity

  bodies : AreBodies own.r.tree own.r.seqs
  bodies =
      let accepted = own.has.allotted.priced.accepted in
      serve own.has.text accepted.program own.r (record { short = own.has.has.within; spelled = accepted.spelled }) accepted.keeps own.is.runs.whole.lawful

  -- its codes do what the bodies mean
  same_network : network_in (loaded_of the_image) ≡ network_of own.r own.counts build.capacity
  unfolding the_image
  same_network =
      ap (λ leaf. network own.r.tree leaf (linked_net own.r.tree own.counts build.capacity) (firings own.r.tree own.counts))
      (same_leaf own.r.tree own.r.seqs own.codes bodies own.compiled)

  -- the bytes spell it alone
  only_image : (i : Image) → IsRunnableImage i bytes → i ≡ the_image
  unfolding the_image
  only_image i runs = (begins i the_image bytes bytes [] runs.is (written_spells the_image bytes own.is.fits own.is.bytes_are) (append-nil bytes)).0

  from_image : (n : Network) → HasNetwork (Some others) (imaged name) n → HasNetwork (Some held) (built build) n
  from_image n h =
      let same = held_once others image_limit name h.texts.text bytes h.have.0 there in
      let runs = subst (λ t. IsRunnableImage h.is.i t) same h.is.runs in
      record {
        texts = record { text = own.has.text; said = own.has.said };
        have = (own.has.has, own.has.says);
        is = record {
          r = own.r;
          cs = own.cs;
          counts = own.counts;
          allotted = own.has.allotted;
          network_is = h.is.network_is ∙ (ap (λ i. network_in (loaded_of i)) (only_image h.is.i runs) ∙ same_network);
        };
      }

  to_image : (n : Network) → HasNetwork (Some held) (built build) n → HasNetwork (Some others) (imaged name) n
  unfolding the_image
  to_image n h =
      let text = held_once held text_limit build.program h.texts.text own.has.text h.have.0 own.has.has in
      let said = costs_once held build.costs h.texts.said own.has.said h.have.1 own.has.says in
      let here = subst (λ s. IsAllotted own.has.text s build.processors h.is.r h.is.cs h.is.counts) said
      (subst (λ t. IsAllotted t h.texts.said build.processors h.is.r h.is.cs h.is.counts) text h.is.allotted) in
      let same = allotted_once own.has.text own.has.said build.processors own.r h.is.r own.cs h.is.cs own.counts h.is.counts own.only own.has.allotted here in
      record {
        texts = record { text = bytes; said = None };
        have = (there, refl);
        is = record {
          i = the_image;
          runs = record { is = written_spells the_image bytes own.is.fits own.is.bytes_are; runs = own.is.runs };
          network_is = h.is.network_is ∙ (ap (λ r. network_of r h.is.counts build.capacity) same.0 ∙ (ap (λ c. network_of own.r c build.capacity) same.1 ∙ sym same_network));
        };
      }

pub has_network : ResolvedServe → ImageBeginsNoOther → EveryImageHasItsProgramsNetwork
has_network serve begins held others build name bytes own there n =
    (from_image serve begins held others build name bytes own there n, to_image serve begins held others build name bytes own there n)

-- verdicts expected of one network are expected of another way to it
module _ (w : World) (one another : Origin) (request : Sched) (go : (n : Network) → HasNetwork w.files.old.content one n → HasNetwork w.files.old.content another n) where
  ends_so : (trace : Option (List ℕ)) (reported : Bool) (finish : Finish) (stats : Option Stats) → EndsRun w one request trace reported finish stats → EndsRun w another request trace reported finish stats
  ends_so trace reported finish stats h = record {
    n = h.n;
    s = h.s;
    has = record { network = go h.n h.has.network; schedule = h.has.schedule };
    ran = h.ran;
    finish_is = h.finish_is;
    stats_are = h.stats_are;
    finishes = h.finishes;
    recorded = h.recorded;
  }

  begins_so : BeginsRun w one request → BeginsRun w another request
  begins_so h = record { n = h.n; s = h.s; has = record { network = go h.n h.has.network; schedule = h.has.schedule }; starts = h.starts }

  over_so : RunsOver w one request → RunsOver w another request
  over_so h = record { n = h.n; s = h.s; has = record { network = go h.n h.has.network; schedule = h.has.schedule }; keeping = h.keeping; ran = h.ran; finishes = h.finishes }

  whole_so : (trace : Option (List ℕ)) (rest taken : List ℕ) → RunsWhole w one request trace rest taken → RunsWhole w another request trace rest taken
  whole_so trace rest taken h = record {
    n = h.n;
    s = h.s;
    has = record { network = go h.n h.has.network; schedule = h.has.schedule };
    input_ended = h.input_ended;
    all_items = h.all_items;
    taken_is = h.taken_is;
    recorded = h.recorded;
  }

  status_so : (rest : List ℕ) (k : ℕ) → IsRunStatus w one request rest k → IsRunStatus w another request rest k
  status_so rest k h = record { n = h.n; s = h.s; has = record { network = go h.n h.has.network; schedule = h.has.schedule }; status_is = h.status_is; stops = h.stops }

  emits_so : (trace : Option (List ℕ)) (numbers : RunStats) → Emits w one request trace numbers → Emits w another request trace numbers
  emits_so trace numbers h = record {
    n = h.n;
    s = h.s;
    has = record { network = go h.n h.has.network; schedule = h.has.schedule };
    items = h.items;
    put = h.put;
    recorded = h.recorded;
    bounded = h.bounded;
    bound_is = h.bound_is;
  }

pub run_alike : EveryImageHasItsProgramsNetwork → EveryImageRunsAsItsProgram
run_alike same w held build name bytes request known own there =
    let both : (n : Network) → HasNetwork w.files.old.content (imaged name) n ↔ HasNetwork w.files.old.content (built build) n =
    subst (λ files. (n : Network) → HasNetwork files (imaged name) n ↔ HasNetwork files (built build) n) (sym known) (same held held build name bytes own there) in
    let go : (n : Network) → HasNetwork w.files.old.content (imaged name) n → HasNetwork w.files.old.content (built build) n = λ n. (both n).0 in
    let back : (n : Network) → HasNetwork w.files.old.content (built build) n → HasNetwork w.files.old.content (imaged name) n = λ n. (both n).1 in
    let image = imaged name in
    let program = built build in
    record {
      ends = λ trace reported finish stats. (ends_so w image program request go trace reported finish stats, ends_so w program image request back trace reported finish stats);
      begins = (begins_so w image program request go, begins_so w program image request back);
      over = (over_so w image program request go, over_so w program image request back);
      whole = λ trace rest taken. (whole_so w image program request go trace rest taken, whole_so w program image request back trace rest taken);
      status = λ rest k. (status_so w image program request go rest k, status_so w program image request back rest k);
      emits = λ trace numbers. (emits_so w image program request go trace numbers, emits_so w program image request back trace numbers);
    }
