use Rattle.std.proofs.Common.{refl}
use Rattle.table_rows.proofs.Packing.{region_call, region_caller, region_long, region_packet, region_row}
use Rattle.table_rows.proofs.laws.region_laws.region.Goals as goal

pub returns : goal.returns
returns c = record {
  count = λ k s r pivot row fits row_fits. region_long k s r pivot row fits row_fits;
  caller = λ r pivot row small. region_caller r pivot row small;
  call = λ r pivot row small. region_call r pivot row small;
  pivot = λ r pivot row. refl;
  packet = λ k s r pivot row fits row_fits. region_packet k s r pivot row fits row_fits r.packet.generation;
  row = λ k s r pivot row fits row_fits. region_row k s r pivot row fits row_fits row.generation;
}
