use Rattle.std.proofs.Common.{◌≡◌, ◌++◌, length, rules}
use Rattle.std.specs.Int.{w16, w64, to_be_bytes}
use Rattle.packet_wire.specs.Frame.{head}
use Rattle.packet_wire.proofs.Written.{manifest_written}
use Rattle.packet_wire.proofs.writers.write_manifest.Goals as goal

pub returns-clause-ok : goal.returns-clause-ok
returns-clause-ok c =
    let manifest = c.args.manifest.now in
    let headed : c.start_frame.new.out.items ≡ c.args.out.now.items ++ head 1 44 = search rules in
    let len : c.put_bytes.new.out.items ≡ c.start_frame.new.out.items ++ to_be_bytes w64 manifest.shape.len = search rules in
    let k : c.put_bytes-2.new.out.items ≡ c.put_bytes.new.out.items ++ to_be_bytes w16 manifest.shape.k = search rules in
    let block : c.put_bytes-3.new.out.items ≡ c.put_bytes-2.new.out.items ++ to_be_bytes w16 manifest.shape.block = search rules in
    let counted : length manifest.digest ≡ 32 = search rules in
    manifest_written manifest _ _ _ _ _ _ counted headed len k block c.put_bytes-4.ensures.items
