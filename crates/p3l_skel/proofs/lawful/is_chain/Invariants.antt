use Rattle.std.proofs.Common.{◌↔◌, drop}
use Rattle.p3l_skel.specs.Lawful.{IsChain}
use Rattle.p3l_skel.proofs.lawful.is_chain.Given as goal

-- the parts are a chain if those that are left are one from here
abbrev pub invariant-loop-part : goal.invariant-loop-part
invariant-loop-part l =
    IsChain l.tree l.ins l.outs l.parts ↔ IsChain l.tree l.given l.outs (drop l.part-index l.parts)
