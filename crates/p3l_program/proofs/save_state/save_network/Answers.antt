use Rattle.std.proofs.Common.{refl, subst, sym, ◌∙◌, ap}
use Rattle.p3l_io.specs.Change.{change}
use Rattle.p3l_run.specs.Network.{IsSound, Network}
use Rattle.p3l_skel.specs.Numbers.{firings}
use Rattle.p3l_program.specs.Plan.{network_in}
use Rattle.p3l_program.specs.SaveState.{IsReached, IsWriting}
use Rattle.p3l_program.proofs.SaveStateSteps.{fits_some, save_reached, sound_shot}
use Rattle.p3l_program.proofs.SoundSteps.{loaded_network, loaded_sound}
use Rattle.p3l_program.proofs.save_state.save_network.Goals as goal

pub reach-requires-clause-sound : goal.reach-requires-clause-sound
reach-requires-clause-sound g c =
    let loaded = c.args.imaged.network in
    let bound = firings loaded.tree loaded.counts.list in
    subst IsSound (sym c.plan_of-plan.ensures.network) (loaded_sound loaded c.requires.ready.ready c.in-Ok.units c.in-Ok.ensures bound refl c.every_linked_net_has_invariants.ensures)

pub write_snapshot-requires-clause-fits : goal.write_snapshot-requires-clause-fits
write_snapshot-requires-clause-fits g c =
    let loaded = c.args.imaged.network in
    let files = change (g.F.Files.observed c.args.files.now) (g.F.Files.observed c.reach.new.files) in
    let input = change (g.S.Source.observed c.args.input.now) (g.S.Source.observed c.reach.new.input) in
    let out = change (g.K.Sink.observed c.args.out.now) (g.K.Sink.observed c.reach.new.out) in
    let bound = firings loaded.tree loaded.counts.list in
    let same = c.plan_of-plan.ensures.network ∙ loaded_network loaded c.requires.ready.ready c.in-Ok.units c.in-Ok.ensures bound refl in
    let reached = subst (λ n. IsReached n files input out c.args.name c.in-Ok-reach.checkpoint) same c.in-Ok-reach.ensures.reached in
    fits_some loaded c.requires.ready.ready c.every_saved_shot_is_sound.ensures c.every_table_names_modules.ensures files input out c.args.name c.in-Ok-reach.checkpoint reached c.requires.ready.small

pub returns-clause-saved : goal.returns-clause-saved
returns-clause-saved g c =
    let loaded = c.args.imaged.network in
    let observed = g.F.Files.observed in
    let end = observed c.write_snapshot.new.files in
    let files = change (observed c.args.files.now) end in
    let input = change (g.S.Source.observed c.args.input.now) (g.S.Source.observed c.reach.new.input) in
    let out = change (g.K.Sink.observed c.args.out.now) (g.K.Sink.observed c.reach.new.out) in
    let bound = firings loaded.tree loaded.counts.list in
    let same = c.plan_of-plan.ensures.network ∙ loaded_network loaded c.requires.ready.ready c.in-Ok.units c.in-Ok.ensures bound refl in
    let there = subst (λ (n : Network). IsReached n (change (observed c.args.files.now) (observed c.reach.new.files)) input out c.args.name c.in-Ok-reach.checkpoint) same c.in-Ok-reach.ensures.reached in
    let reached : IsReached (network_in loaded) files input out c.args.name c.in-Ok-reach.checkpoint = record { picks = there.picks; picks_are = there.picks_are; comes = there.comes } in
    let files_same = ap (λ o. change o end) c.in-Ok-reach.ensures.unchanged in
    let writing = subst (λ f. IsWriting f c.in-Ok-reach.checkpoint c.args.imaged.image c.args.output c.write_snapshot.result) files_same c.write_snapshot.ensures.written in
    let sound = sound_shot loaded c.requires.ready.ready c.every_saved_shot_is_sound.ensures c.every_table_names_modules.ensures files input out c.args.name c.in-Ok-reach.checkpoint reached in
    save_reached (network_in loaded) loaded.counts.list loaded.cap c.args.imaged.image files input out c.args.name c.args.output c.in-Ok-reach.checkpoint reached sound c.in-Ok-reach.ensures.same_faults c.write_snapshot.result writing
