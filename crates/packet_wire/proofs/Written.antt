-- Frames that are appended part by part.
use Rattle.std.proofs.Common.{◌≡◌, ℕ, ◌+◌, ◌*◌, List, [], ◌∷◌, ◌++◌, length, ap, sym, ◌∙◌, arith, append_assoc}
use Rattle.std.specs.Int.{w16, w64, to_be_bytes}
use Rattle.std.proofs.lemmas.List.{length-append}
use Rattle.linear_spec.specs.declared.packet.Packet.{Packet}
use Rattle.linear_spec.specs.SymbolLaws.{SymbolLaws}
use Rattle.linear_spec.specs.Symbols.{be_bytes_of}
use Rattle.generation.specs.declared.ticket.Ticket.{Ticket}
use Rattle.packet_wire.specs.declared.manifest.Manifest.{Manifest}
use Rattle.packet_wire.specs.Frame.{head, frame}
use Rattle.packet_wire.specs.Stream.{end_frame, manifest_body, manifest_frame, packet_body, packet_frame, ticket_body, ticket_frame}

-- two parts one after the other are one
two_parts : (out first second mid end : List ℕ) → mid ≡ out ++ first → end ≡ mid ++ second → end ≡ out ++ (first ++ second)
two_parts out first second mid end begun ended =
    ended ∙ ap (λ (x : List ℕ). x ++ second) begun ∙ append_assoc out first second

-- a head, and then a body of its length
pub framed : (kind len : ℕ) (out body mid end : List ℕ) → length body ≡ len → mid ≡ out ++ head kind len → end ≡ mid ++ body → end ≡ out ++ frame kind body
unfolding frame
framed kind len out body mid end count begun ended =
    two_parts out (head kind len) body mid end begun ended ∙ ap (λ (n : ℕ). out ++ (head kind n ++ body)) (sym count)

pub manifest_written : (manifest : Manifest) (out a b c d e : List ℕ) → length manifest.digest ≡ 32
    → a ≡ out ++ head 1 44 → b ≡ a ++ to_be_bytes w64 manifest.shape.len → c ≡ b ++ to_be_bytes w16 manifest.shape.k
    → d ≡ c ++ to_be_bytes w16 manifest.shape.block → e ≡ d ++ manifest.digest → e ≡ out ++ manifest_frame manifest
unfolding manifest_body
manifest_written manifest out a b c d e digest_length headed len k block digest =
    let count : length (manifest_body manifest) ≡ 44 = omega (arith, digest_length) in
    let last = two_parts c _ _ d e block digest in
    let later = two_parts b _ _ c e k last in
    framed 1 44 out (manifest_body manifest) a e count headed (two_parts a _ _ b e len later)

pub ticket_written : SymbolLaws → (ticket : Ticket) (len : ℕ) (out a b c d : List ℕ) → length ticket.key ≡ 32
    → len ≡ 33 + 2 * length ticket.sums → a ≡ out ++ head 2 len → b ≡ a ++ ticket.key
    → c ≡ b ++ ticket.checks ∷ [] → d ≡ c ++ be_bytes_of ticket.sums → d ≡ out ++ ticket_frame ticket
unfolding ticket_body
ticket_written laws ticket len out a b c d key_length len-is headed key checks sums =
    let count : length (ticket_body ticket) ≡ len =
    omega (arith, length-append ticket.key (ticket.checks ∷ be_bytes_of ticket.sums), laws.length ticket.sums, key_length, len-is) in
    let last = two_parts b (ticket.checks ∷ []) (be_bytes_of ticket.sums) c d checks sums in
    framed 2 len out (ticket_body ticket) a d count headed (two_parts a ticket.key (ticket.checks ∷ be_bytes_of ticket.sums) b d key last)

pub packet_written : SymbolLaws → (packet : Packet) (len : ℕ) (out a b c d : List ℕ)
    → len ≡ 2 + 2 * length packet.coeffs + 2 * length packet.payload → a ≡ out ++ head 3 len
    → b ≡ a ++ to_be_bytes w16 packet.generation → c ≡ b ++ be_bytes_of packet.coeffs
    → d ≡ c ++ be_bytes_of packet.payload → d ≡ out ++ packet_frame packet
unfolding packet_body
packet_written laws packet len out a b c d len-is headed generation coeffs payload =
    let count : length (packet_body packet) ≡ len =
    omega (arith, length-append (be_bytes_of packet.coeffs) (be_bytes_of packet.payload), laws.length packet.coeffs, laws.length packet.payload, len-is) in
    let last = two_parts b _ _ c d coeffs payload in
    framed 3 len out (packet_body packet) a d count headed (two_parts a _ _ b d generation last)

pub end_written : (out end : List ℕ) → end ≡ out ++ head 4 0 → end ≡ out ++ end_frame
unfolding frame head
end_written out end ended = ended
