-- A run can go on from what was saved of a linked net, whatever items come then, and its firings can be counted.
use Rattle.std.proofs.Common.{◌≡◌, ℕ, ℤ, ◌+◌, ◌*◌, ◌≤◌, List, [], ◌++◌, length, map, Some, None, Option, refl, ap, ap₂, ◌∙◌, arith}
use Rattle.std.specs.Option.{option_to_list}
use Rattle.std.proofs.Math.Nat.{mul-le-mul}
use Rattle.p3l_base.specs.declared.outcome.Outcome.{Outcome}
use Rattle.p3l_skel.specs.Counts.{count_of, counted}
use Rattle.p3l_skel.specs.Item.{item}
use Rattle.p3l_skel.specs.Numbers.{firings, segments_at}
use Rattle.p3l_skel.specs.Tree.{node_at, nesting}
use Rattle.p3l_model.proofs.Count.{count_lawful}
use Rattle.p3l_model.proofs.Monotone.{bounded, firings_by-mono}
use Rattle.p3l_firing.specs.declared.net.Net.{Net}
use Rattle.p3l_firing.specs.declared.token.Token.{Token}
use Rattle.p3l_firing.specs.NetInvariants.{Invariants, HaveInWords}
use Rattle.p3l_firing.specs.State.{State, with_rest}
use Rattle.p3l_firing.specs.Token.{bodies, has_trap, over}
use Rattle.p3l_firing.specs.declared.shot.Shot.{Shot}
use Rattle.p3l_net.specs.Machine.{state_of}
use Rattle.p3l_net.specs.Shot.{CanRestore, restored}
use Rattle.p3l_template.specs.Part.{IsAlike, Part, line}
use Rattle.p3l_template.specs.Units.{Units}
use Rattle.p3l_link.specs.Laws.{IsLinkable, IsOrderly, net_of}
use Rattle.p3l_link.specs.Part.{root_part}
use Rattle.p3l_link.specs.Whole.{owed_round, root_invariants}
use Rattle.p3l_link.proofs.NetInvariants.{root_sound}
use Rattle.p3l_link.proofs.LinkedLaws.{owed_bounded}
use Rattle.p3l_link.proofs.Size.{net_chans, net_procs}
use Rattle.p3l_resume_laws.specs.Linked.{CanResume}
use Rattle.p3l_resume_laws.specs.Saved.{saved_state}
use Rattle.p3l_resume_laws.specs.Start.{EveryFittingShotHasFewTokens, EveryItemHasFewFirings, EveryOrderlyShotGoesOn, EveryResumedRunCanBeCounted, begun_from}
use Rattle.p3l_resume_laws.proofs.FewTokens.{few_tokens_in}
use Rattle.p3l_resume_laws.proofs.Forced.{net_forced}
use Rattle.p3l_resume_laws.proofs.LinkedLaw.{ahead_is, invariants_orderly, have_words, items_append}
use Rattle.p3l_resume_laws.proofs.Rooms.{net_small}
use Rattle.p3l_resume_laws.proofs.SavedLaw.{fitting_restores, orderly_resumes}

module _ (units : Units) (counts : List ℕ) (cap : ℕ) (l : IsLinkable units counts cap) (shot : Shot) (items : List (List ℤ)) where
  abbrev P : Part
  P = root_part units counts

  abbrev invariants : Invariants
  invariants = root_invariants units counts

  abbrev s : State
  s = saved_state units counts cap shot []

  -- the root can't distinguish the state in which a run begins from what was saved: nothing in it is changed
  alike : IsAlike P s (begun_from units counts cap shot items)
  unfolding with_rest state_of restored
  alike =
      (root_sound units counts cap l.lawful l.fit l.room).lawful.reads s (begun_from units counts cap shot items)
      (record { tokens = λ c from to. refl; own = λ p from to. refl })

  begun_orderly : IsOrderly units counts s → HaveInWords units.tree items → IsOrderly units counts (begun_from units counts cap shot items)
  unfolding with_rest state_of restored
  begun_orderly orderly long = record {
    root = alike.orderly ∙ orderly.root;
    items = items_append (node_at units.tree 0).ins s.unsent items orderly.items long;
  }

  same_to_come : invariants.to_come (begun_from units counts cap shot items) ≡ invariants.to_come s
  unfolding line with_rest state_of restored
  same_to_come =
      ap (λ (pending : List Token). bodies (s.tokens P.output ++ (pending ++ map (over P.meaning) (s.tokens P.input)))) alike.pending

  same_owed : invariants.owed (begun_from units counts cap shot items) ≡ invariants.owed s
  unfolding owed_round with_rest state_of restored
  same_owed =
      ap₂
      (λ (owed : ℕ) (pending : List Token).
      owed + ((P.firings + 1) * length (s.tokens P.input) + (length pending + length (s.tokens P.output))))
      alike.owed alike.pending

pub shot_goes_on : EveryOrderlyShotGoesOn
unfolding state_of restored has_trap
shot_goes_on units counts cap shot typed l fitting orderly =
    let s : State = saved_state units counts cap shot [] in
    let resumes : CanResume units counts cap typed s = orderly_resumes net_forced units counts cap typed shot [] l fitting orderly refl in
    let waiting = have_words units counts cap l typed (s.tokens 0) (resumes.fitting.tokens 0) in
    let owed = owed_bounded units counts cap s l orderly in
    record {
      restores = fitting_restores net_forced units.tree counts cap shot typed l.fit fitting;
      orderly = λ items long.
          invariants_orderly units counts (begun_from units counts cap shot items) (begun_orderly units counts cap l shot items orderly long);
      ahead = λ items long.
          ap (λ (z : List Outcome). z ++ map (item units.tree units.leaf 0) (option_to_list shot.inbox))
          (same_to_come units counts cap l shot items) ∙ ahead_is units counts cap l s waiting;
      owed = λ items long. let same = same_owed units counts cap l shot items in omega (arith, same, owed);
    }

pub firings_few : EveryItemHasFewFirings
firings_few tree counts lawful lawfully =
    let light = lawful.light.joined in
    let least = firings_by-mono tree (count_of tree counts) (segments_at tree) nesting 0
    (λ k inside. bounded (node_at tree k).form (count_of tree counts k) (count_lawful tree (counted tree) counts [] k lawfully inside)) in
    omega (arith, light, least)

pub tokens_few : EveryFittingShotHasFewTokens
tokens_few units counts cap shot typed l procs few fitting =
    let net : Net = net_of units counts cap in
    let can : CanRestore units.tree net shot = fitting_restores net_forced units.tree counts cap shot typed l.fit fitting in
    let all = few_tokens_in units.tree net can.typed (net_small cap few units.tree counts l.lawful) shot can.fits fitting.held in
    let chans = net_chans units.tree counts cap l.lawful l.fit in
    let stands = net_procs units.tree counts cap l.lawful l.fit in
    omega (arith, all, chans, stands, procs)

inbox_few : (inbox : Option (List ℤ)) → length (option_to_list inbox) ≤ 1
inbox_few None = omega arith
inbox_few (Some item) = omega arith

pub run_counted : EveryResumedRunCanBeCounted
run_counted units counts cap shot count typed l procs few fitting come =
    let often : firings units.tree counts ≤ 134217730 = firings_few units.tree counts l.lawful l.fit in
    let tokens = tokens_few units counts cap shot typed l procs few fitting in
    let waiting = inbox_few shot.inbox in
    let more : length (option_to_list shot.inbox) + count ≤ 34359738370 = omega (arith, waiting, come) in
    let old = mul-le-mul often tokens in
    let new = mul-le-mul often more in
    omega (arith, old, new)
