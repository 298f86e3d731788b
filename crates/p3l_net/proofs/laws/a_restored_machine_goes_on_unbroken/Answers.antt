use Rattle.std.proofs.Common.{◌≡◌, [], ◌++◌, sym, ap, ◌∙◌}
use Rattle.std.proofs.lemmas.List.{append-nil}
use Rattle.p3l_firing.specs.Cut.{after_run, run_with_earlier, with_earlier}
use Rattle.p3l_firing.specs.Run.{Course, run, run_from}
use Rattle.p3l_firing.specs.State.{State, first_state, with_rest}
use Rattle.p3l_net.specs.Machine.{state_of}
use Rattle.p3l_firing.proofs.CutLaw.{run-append}
use Rattle.p3l_firing.proofs.EarlierLaw.{run-earlier}
use Rattle.p3l_net.proofs.laws.a_restored_machine_goes_on_unbroken.Goals as goal

pub returns : goal.returns
unfolding state_of with_rest
returns c = λ m n leaf outcomes u w a b follows untrapped same.
    let first : Course = run m.tree leaf m.net (u ++ w) a in
    let saved : State = with_rest (state_of m []) w in
    let emitted : with_rest (state_of m outcomes) w ≡ with_earlier outcomes saved =
    ap (λ es. record saved { emitted = es }) (sym (append-nil outcomes)) in
    run-append m.tree leaf m.net (first_state m.net (u ++ w)) a b
    ∙ ap (λ s. after_run first (run_from m.tree leaf m.net s b)) (sym follows.state ∙ emitted)
    ∙ ap (after_run first) (run-earlier outcomes m.tree leaf m.net untrapped saved b)
    ∙ ap (λ s. after_run first (run_with_earlier outcomes (run_from m.tree leaf m.net (with_rest s w) b))) (sym same)
