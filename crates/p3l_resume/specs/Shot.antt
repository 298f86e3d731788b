-- The format of what is saved of machines.
use Rattle.std.specs.Prelude.{ℕ, List}
use Rattle.p3l_format.specs.Format.{Format, both, counted, record_of}
use Rattle.p3l_format.specs.Numbers.{u64_format}
use Rattle.p3l_firing.specs.declared.shot.Own.{Own}
use Rattle.p3l_firing.specs.declared.shot.SavedToken.{SavedToken}
use Rattle.p3l_firing.specs.declared.shot.Shot.{Shot}
use Rattle.p3l_resume.specs.Token.{tokens_format}
use Rattle.p3l_resume.specs.Words.{count_format, inbox_format}

-- the number of a process, and the tokens that it holds
unfoldable pub own_format : Format ℕ Own
own_format = record_of (λ p. record { number = p.0; held = p.1 }) (λ o. (o.number, o.held)) (both u64_format tokens_format)

abbrev pub owns_format : Format ℕ (List Own)
owns_format = counted count_format (λ _. own_format)

-- the tokens of each channel
abbrev pub chans_format : Format ℕ (List (List SavedToken))
chans_format = counted count_format (λ _. tokens_format)

-- the counts of items sent and outcomes emitted, the inbox, the own states of the processes, and the tokens of the channels
unfoldable pub shot_format : Format ℕ Shot
shot_format = record_of
    (λ p. record { sent = p.0; emitted = p.1.0; inbox = p.1.1.0; owns = p.1.1.1.0; chans = p.1.1.1.1 })
    (λ s. (s.sent, (s.emitted, (s.inbox, (s.owns, s.chans)))))
    (both u64_format (both u64_format (both inbox_format (both owns_format chans_format))))
