-- Snapshots that are loaded can be resumed.
use Rattle.std.proofs.Common.{◌≡◌, ℕ, List, [], refl, sym, subst, arith}
use Rattle.p3l_firing.specs.Typed.{IsTyped}
use Rattle.p3l_firing.specs.declared.net.Net.{Net}
use Rattle.p3l_link.specs.Laws.{EveryNetHasInvariants, IsLinkable, IsOrderly}
use Rattle.p3l_link.specs.Net.{linked_net}
use Rattle.p3l_link.specs.Whole.{root_invariants}
use Rattle.p3l_load.specs.declared.loaded.Loaded.{Loaded}
use Rattle.p3l_net.specs.Fitting.{Fitting}
use Rattle.p3l_fitting.specs.Survey.{linked_loops, linked_widths}
use Rattle.p3l_orderly.specs.Root as orderly
use Rattle.p3l_resume_laws.specs.Saved.{FitsLinked, saved_state}
use Rattle.p3l_resume_laws.specs.Start.{EveryOrderlyShotGoesOn, EveryResumedRunCanBeCounted}
use Rattle.p3l_run.specs.Feed.{most_of_input}
use Rattle.p3l_run.specs.Network.{Network, network}
use Rattle.p3l_run.specs.Resume.{IsResumable, IsResumedBy}
use Rattle.p3l_run.specs.Start.{Resumption}
use Rattle.p3l_skel.specs.Numbers.{firings}
use Rattle.p3l_template.specs.Units.{Units}
use Rattle.p3l_units.specs.laws.Leaf.{gives_outs}
use Rattle.p3l_program.specs.declared.snapshot.ResumableNetwork.{ResumableNetwork}
use Rattle.p3l_program.specs.LoadSnapshot.{IsReadySnapshot}
use Rattle.p3l_program.specs.Plan.{network_in, resumption_of}
use Rattle.p3l_program.specs.Snapshot.{units_in}

module _ (snapshot : ResumableNetwork) (ready : IsReadySnapshot snapshot) where
  abbrev loaded : Loaded
  loaded = snapshot.network

  abbrev units : Units
  units = units_in loaded

  abbrev counts : List ℕ
  counts = loaded.counts.list

  abbrev linked : Net
  linked = linked_net loaded.tree counts loaded.cap

  abbrev pub resumption : Resumption
  resumption = resumption_of loaded snapshot.shot

  linkable : IsLinkable units counts loaded.cap
  linkable =
      let room = ready.image.room in record {
        lawful = ready.image.lawful;
        fit = ready.image.fit;
        room = omega (arith, room);
        gives = gives_outs (record { tree = loaded.tree; codes = loaded.codes });
      }

  typed : IsTyped loaded.tree linked
  typed = subst (IsTyped loaded.tree) ready.image.net_is ready.image.typed

  fits : FitsLinked loaded.tree counts loaded.cap snapshot.shot
  fits = subst (λ n. Fitting loaded.tree n (linked_widths loaded.tree counts) (linked_loops loaded.tree counts) snapshot.shot) ready.image.net_is ready.sound.fitting

  is_orderly : IsOrderly units counts (saved_state units counts loaded.cap snapshot.shot [])
  is_orderly = subst (λ n. IsOrderly units counts (orderly.saved_state loaded.tree n snapshot.shot [])) ready.image.net_is ready.sound.orderly

  -- on the net that is linked for the tree
  resumed_there : EveryNetHasInvariants → EveryOrderlyShotGoesOn → EveryResumedRunCanBeCounted → IsResumedBy (network loaded.tree units.leaf linked (firings loaded.tree counts)) snapshot.shot resumption
  resumed_there has_invariants goes_on counted =
      let g = goes_on units counts loaded.cap snapshot.shot typed linkable fits is_orderly in record {
        shot_is = refl;
        sound = record {
          typed = typed;
          has_invariants = (root_invariants units counts, has_invariants units counts loaded.cap linkable);
          begins = record { restores = g.restores; orderly = g.orderly; ahead = g.ahead; owed = g.owed };
        };
        fits = counted units counts loaded.cap snapshot.shot most_of_input typed linkable ready.few_procs ready.few_tokens fits (omega arith);
      }

  -- the network is the one that was loaded
  pub resumed_by : EveryNetHasInvariants → EveryOrderlyShotGoesOn → EveryResumedRunCanBeCounted → IsResumedBy (network_in loaded) snapshot.shot resumption
  resumed_by has_invariants goes_on counted =
      subst (λ n. IsResumedBy (network loaded.tree units.leaf n (firings loaded.tree counts)) snapshot.shot resumption) (sym ready.image.net_is) (resumed_there has_invariants goes_on counted)

  -- so is another that is the same
  pub resumed_by_same : EveryNetHasInvariants → EveryOrderlyShotGoesOn → EveryResumedRunCanBeCounted → (n : Network) → n ≡ network_in loaded → IsResumedBy n snapshot.shot resumption
  resumed_by_same has_invariants goes_on counted n same = subst (λ n. IsResumedBy n snapshot.shot resumption) (sym same) (resumed_by has_invariants goes_on counted)

  pub resumable : EveryNetHasInvariants → EveryOrderlyShotGoesOn → EveryResumedRunCanBeCounted → (n : Network) → n ≡ network_in loaded → IsResumable n snapshot.shot
  resumable has_invariants goes_on counted n same = (resumption, resumed_by_same has_invariants goes_on counted n same)
