use Rattle.std.proofs.Common.{◌+◌, ◌^◌, ◌<◌, pos, length, Some, Ok, Err, sym, ap, ◌∙◌, subst, arith, rules}
use Rattle.std.specs.Prelude.{slice_index_or}
use Rattle.p3l_code.specs.declared.instr.Instr.TheVariants.{Push}
use Rattle.p3l_code.specs.Machine.{outs_of, most_steps, machine}
use Rattle.p3l_code.specs.Stacked.{HasRoom}
use Rattle.p3l_code.specs.Counting.{HasDone}
use Rattle.p3l_code.proofs.Counting.{done_none, done_more, done_all, few_steps, starts_low, inside, instr_there}
use Rattle.p3l_code.proofs.run.count.Goals as goal

pub steps-init : goal.steps-init
steps-init c =
    let code = c.args.code.now in
    let start = c.args.memory.now in
    record {
      same = ap (λ s. machine code 0 s start 0) (sym c.requires.stack);
      room = c.requires.room;
      at = (c.requires.safe.depths.0, c.requires.safe.depths.1, c.requires.safe.depths.1.start ∙ ap (λ s. Some (length s)) (sym c.requires.stack));
      done = subst (λ n. HasDone code start n 0 c.args.stack.now.words start 0) (sym c.requires.none)
          (subst (λ s. HasDone code start 0 0 s start 0) (sym c.requires.stack) (done_none code start));
      falls = omega (arith, c.requires.none);
    }

pub bounds-instrs-pc : goal.bounds-instrs-pc
bounds-instrs-pc c =
    let low = inside c.args.code.now c.steps.pc (length c.steps.stack.words) c.steps.invariant.at in
    omega (arith, low, ap length c.as_slice-instrs.ensures)

pub offset_bounds-instrs-pc : goal.offset_bounds-instrs-pc
offset_bounds-instrs-pc c =
    let low = inside c.args.code.now c.steps.pc (length c.steps.stack.words) c.steps.invariant.at in
    let small : c.steps.pc < 4194304 = omega (arith, low, c.requires.safe.few) in
    search rules

pub step-next-requires-clause-instr : goal.step-next-requires-clause-instr
step-next-requires-clause-instr c =
    instr_there c.args.code.now c.as_slice-instrs.result.now c.steps.pc (length c.steps.stack.words) (Push (pos 0)) c.as_slice-instrs.ensures c.steps.invariant.at

pub overflow_add-steps : goal.overflow_add-steps
overflow_add-steps c =
    let low = starts_low c.args.code.now c.requires.safe 0 0 in
    let few = few_steps c.args.code.now c.requires.safe in
    let small : c.steps.steps + 1 < 2 ^ 64 = omega (arith, low, few, c.steps.invariant.falls) in
    search rules

pub steps-preserved : goal.steps-preserved
steps-preserved c =
    let code = c.args.code.now in
    let inv = c.steps.invariant in
    let instr = slice_index_or c.as_slice-instrs.result.now c.steps.pc (Push (pos 0)) in
    let at = instr_there code c.as_slice-instrs.result.now c.steps.pc (length c.steps.stack.words) (Push (pos 0)) c.as_slice-instrs.ensures inv.at in
    let follows = c.in-Goes.ensures.follows in
    record {
      same = inv.same ∙ follows.0;
      room = subst (HasRoom code) (sym c.in-Goes.ensures.room) inv.room;
      at = follows.1;
      done = done_more code c.args.memory.now c.steps.steps c.steps.pc c.in-Goes.to c.steps.stack.words c.steps.memory c.step-next.new.stack.words c.step-next.new.memory c.steps.turns c.in-Goes.counted instr at inv.done c.in-Goes.ensures.does;
      falls = omega (arith, inv.falls, follows.2);
    }

pub returns-in-Ended-clause-steps : goal.returns-in-Ended-clause-steps
returns-in-Ended-clause-steps c =
    let code = c.args.code.now in
    let inv = c.steps.invariant in
    let instr = slice_index_or c.as_slice-instrs.result.now c.steps.pc (Push (pos 0)) in
    let at = instr_there code c.as_slice-instrs.result.now c.steps.pc (length c.steps.stack.words) (Push (pos 0)) c.as_slice-instrs.ensures inv.at in
    let few : c.steps.steps < most_steps code = omega (arith, starts_low code c.requires.safe 0 0, inv.falls) in
    done_all code c.args.memory.now c.steps.steps c.steps.pc c.steps.stack.words c.steps.memory c.steps.turns instr (Ok (outs_of code c.step-next.new.memory)) few at inv.done c.in-Ended.ensures.does

pub returns-in-Stopped-clause-steps : goal.returns-in-Stopped-clause-steps
returns-in-Stopped-clause-steps c =
    let code = c.args.code.now in
    let inv = c.steps.invariant in
    let instr = slice_index_or c.as_slice-instrs.result.now c.steps.pc (Push (pos 0)) in
    let at = instr_there code c.as_slice-instrs.result.now c.steps.pc (length c.steps.stack.words) (Push (pos 0)) c.as_slice-instrs.ensures inv.at in
    let few : c.steps.steps < most_steps code = omega (arith, starts_low code c.requires.safe 0 0, inv.falls) in
    done_all code c.args.memory.now c.steps.steps c.steps.pc c.steps.stack.words c.steps.memory c.steps.turns instr (Err c.in-Stopped.trap) few at inv.done c.in-Stopped.ensures.does
