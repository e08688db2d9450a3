-- What a relay drew of each generation once the packets of a stream were received, and what the closed bases then hold.
-- The receivers are numbered from 0. The sender, which draws, comes after them. records: those of a generation's closed basis.
-- k, s: the numbers of coefficients and of payload symbols of each packet. q: the number of a draw on its link, counted from 0
-- over all generations.
use Rattle.std.specs.Prelude.{◌≡◌, ℕ, ◌+◌, ◌<◌, List, [], ◌∷◌, ◌++◌, length, map, slice_index_or}
use Rattle.std.specs.List.{All}
use Rattle.linear_spec.specs.declared.equations.Equations.{Equations}
use Rattle.linear_spec.specs.declared.packet.Packet.{Packet}
use Rattle.linear_spec.specs.declared.record.Record.{Record}
use Rattle.linear_spec.specs.Packet.{Fits, zeros_of}
use Rattle.linear_spec.specs.Rows.{StandForAll}
use Rattle.linear_spec.specs.SequentialBasis.{packets_of}
use Rattle.basis_core.specs.declared.trace.CallerTrace.{CallerTrace}
use Rattle.basis_core.specs.Calls.{KeptCall, KeptDraw, call_of}
use Rattle.basis_core.specs.Legal.{IsLegalHistory}
use Rattle.receive_pass.specs.Workers.{AreOffersOf}
use Rattle.recode.specs.Draws.{drawn_over, drawn_packet, left_by, numbers_of, tag_of_draw}
use Rattle.shared_basis.specs.declared.params.Closed.{Closed}
use Rattle.shared_reception.specs.declared.sends.SentDraw.{SentDraw}
use Rattle.shared_reception.specs.declared.sends.Sending.{Sending}
use Rattle.shared_reception.specs.Dealing.{dealt_to, given_below}

-- a generation's draws as calls, all over n records
abbrev pub draws_of : Sending → ℕ → ℕ → List KeptCall
draws_of sending generation n = map (λ q. KeptDraw (tag_of_draw sending.link q) (drawn_over n)) (numbers_of sending.coded generation)

-- a draw over these records: zeros where there are none
abbrev pub sent_draw : ℕ → ℕ → Sending → ℕ → List Record → ℕ → SentDraw
sent_draw k s sending generation records q = record {
  generation = generation;
  q = q;
  drawn = drawn_over (length records);
  packet = left_by (drawn_over (length records)) (drawn_packet k s generation sending.key sending.link q (packets_of records)) (zeros_of k s generation);
}

-- a generation's draws, all over these records
abbrev pub sent_of : ℕ → ℕ → Sending → ℕ → List Record → List SentDraw
sent_of k s sending generation records = map (sent_draw k s sending generation records) (numbers_of sending.coded generation)

-- the draws of generations from this one on, each over its records
abbrev pub sent_from : ℕ → ℕ → Sending → ℕ → List (List Record) → List SentDraw
sent_from k s sending generation [] = []
sent_from k s sending generation (records ∷ others) = sent_of k s sending generation records ++ sent_from k s sending (generation + 1) others

-- the draws of all generations, each over all records of its closed basis
abbrev pub sent_of_all : ℕ → ℕ → Sending → List Closed → List SentDraw
sent_of_all k s sending bases = sent_from k s sending 0 (map (λ closed. closed.records.items) bases)

-- the closed basis of a generation: its records fit, and its rows stand for them; it lists each receiver by its number, with its
-- offers of the packets that it got and with no other calls, and then the sender, with its draws and with no other calls; each
-- draw is over all the records; every record is a receiver's; and the records and all these calls are a legal history
pub record IsRelayedBy (equations : Equations) (receivers generation : ℕ) (packets : List Packet) (sending : Sending) (closed : Closed) : Type 0 where
  pub fit : All (Fits equations.k equations.s) (packets_of closed.records.items)
  pub stand : StandForAll equations.k equations.s (packets_of closed.records.items) closed.rows.items
  pub count : length closed.callers.items ≡ receivers + 1
  pub numbers : (number : ℕ) (other : CallerTrace) → number < receivers + 1 → (slice_index_or closed.callers.items number other).number ≡ number
  pub kept : ℕ → List KeptCall
  pub calls : (number : ℕ) (other : CallerTrace) → number < receivers + 1 → (slice_index_or closed.callers.items number other).calls.items ≡ map call_of (kept number)
  pub listed : All (λ entry. entry.caller < receivers) closed.records.items
  pub offers : (number : ℕ) → number < receivers → AreOffersOf (dealt_to receivers number generation packets) (kept number)
  pub draws : kept receivers ≡ draws_of sending generation (length closed.records.items)
  pub legal : IsLegalHistory equations (given_below (receivers + 1) kept) closed.records.items
