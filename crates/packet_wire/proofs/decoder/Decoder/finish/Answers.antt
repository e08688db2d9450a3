use Rattle.std.proofs.Common.{◌≡◌, ◌+◌, ℕ, Err, ap, arith, sym, ◌∙◌}
use Rattle.packet_wire.specs.declared.fault.FaultKind.TheVariants as kinds
use Rattle.packet_wire.specs.declared.fault.FeedError.{FeedError}
use Rattle.packet_wire.specs.declared.fault.FeedError.TheVariants.{Fault}
use Rattle.packet_wire.specs.declared.fault.WireFault.{WireFault}
use Rattle.packet_wire.specs.Decoding.{taken_by}
use Rattle.packet_wire.proofs.Answering.{ended_fault, ended_stream, failed_fault, failed_stream, short_only, short_stream}
use Rattle.packet_wire.proofs.decoder.Decoder.finish.Goals as goal

pub returns-in-Some-clause-stream : goal.returns-in-Some-clause-stream
returns-in-Some-clause-stream c =
    let laws = c.bytes_spell_symbols.ensures in
    λ fed given contents after stream. absurd (failed_stream laws c.args.self.now c.in-Some.error c.in-Some.is fed given contents after stream)

pub returns-in-Some-clause-fault : goal.returns-in-Some-clause-fault
returns-in-Some-clause-fault c =
    let laws = c.bytes_spell_symbols.ensures in
    λ fed given fault after.
    let both = failed_fault laws c.args.self.now c.in-Some.error c.in-Some.is fed given fault after in
    (λ is. both.0 cc, λ first. ap (λ (e : FeedError). Err e) (both.1 first))

pub returns-in-Ended-clause-ok : goal.returns-in-Ended-clause-ok
returns-in-Ended-clause-ok c = λ fed given after. ended_stream c.args.self.now c.in-None.is c.in-Ended.is fed given after

pub returns-in-Ended-clause-fault : goal.returns-in-Ended-clause-fault
returns-in-Ended-clause-fault c =
    let laws = c.bytes_spell_symbols.ensures in
    λ fed given fault after.
    (λ is. absurd cc, λ first. absurd (ended_fault laws c.args.self.now c.in-None.is c.in-Ended.is fed given fault after first))

pub returns-in_default-clause-stream : goal.returns-in_default-clause-stream
returns-in_default-clause-stream c =
    let laws = c.bytes_spell_symbols.ensures in
    λ fed given contents after stream. absurd (short_stream laws c.args.self.now c.in-None.is c.in_default.not-Ended fed given contents after stream)

pub returns-in_default-clause-fault : goal.returns-in_default-clause-fault
returns-in_default-clause-fault c =
    let laws = c.bytes_spell_symbols.ensures in
    λ fed given fault after.
    let d = c.args.self.now in
    let count : d.start + c.len.result ≡ taken_by d = omega (arith, c.len.ensures) in
    let at = λ (n : ℕ). let f : WireFault = record { offset = n; kind = kinds.Truncated } in f in
    let both = short_only laws d c.in-None.is c.in_default.not-Ended fed given fault after in (
      λ is. let same : at (d.start + c.len.result) ≡ fault = cc in both.0 (sym (ap at count) ∙ same),
      λ first. ap (λ (f : WireFault). Err (Fault f)) (ap at count ∙ both.1 first),
    )
