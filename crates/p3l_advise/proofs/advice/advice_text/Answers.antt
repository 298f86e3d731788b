use Rattle.std.proofs.Common.{◌≤◌, ℕ, List, sym, subst, arith}
use Rattle.std.specs.Prelude.{string_bytes}
use Rattle.p3l_alloc.specs.Table.{IsTableFrom}
use Rattle.p3l_advise.proofs.Bests.{advice}
use Rattle.p3l_advise.proofs.advice.advice_text.Goals as goal

pub returns-clause-text : goal.returns-clause-text
returns-clause-text c =
    let tree = c.args.tree.now in
    let costs = c.args.costs.now in
    let table = subst (λ (rs : List (List ℕ)). IsTableFrom tree costs c.args.processors rs 0) (sym c.as_slice-rows.ensures) c.in_ok-rows.ensures in
    let chosen = c.in_ok-choice.ensures.chosen in
    let used = c.in_ok-choice.ensures.used in
    let few = chosen.optimal.fit.few in
    let below = c.least_procs-least.ensures.below c.in_ok-choice.choice.counts.list chosen.optimal.fit.lawful in
    let within : c.least_procs-least.result ≤ c.args.processors = omega (arith, few, below) in
    advice tree costs c.args.processors c.least_procs-least.result c.in_ok-choice.choice.used c.as_slice-rows.result.now c.in_ok-choice.choice.counts.list c.from_vec.result
    (string_bytes c.new-text.result) (string_bytes c.put_falls.new.text) (string_bytes c.put_tree.new.text) (string_bytes c.put_help.new.text)
    c.requires.tree c.requires.costs table c.least_procs-least.ensures within chosen used
    c.new-text.ensures.bytes c.in_ok-put_falls.ensures c.in_ok-put_tree.ensures c.in_ok-put_help.ensures (rw c.into_bytes.ensures.value at c.from_vec.ensures)
