-- The parts of a body: how long they are, and that the body determines them.
use Rattle.std.proofs.Common.{◌≡◌, ℕ, ◌<◌, ◌^◌, List, ◌++◌, length, refl, ap, sym, ◌∙◌, arith}
use Rattle.std.specs.Int.{w16, w64, to_be_bytes, from_be_bytes}
use Rattle.std.proofs.lemmas.Nat.{from_be_bytes-to_be_bytes_2, from_be_bytes-to_be_bytes_8}
use Rattle.packet_wire.specs.declared.manifest.Manifest.{Manifest}
use Rattle.packet_wire.specs.Frame.{frame}
use Rattle.packet_wire.specs.Stream.{IsManifest, manifest_body}
use Rattle.packet_wire.proofs.Frames.{frame_unique}

-- ---- numbers

pub number16_unique : (m n : ℕ) → m < 2 ^ 16 → n < 2 ^ 16 → to_be_bytes w16 m ≡ to_be_bytes w16 n → m ≡ n
number16_unique m n m-fits n-fits same =
    sym (from_be_bytes-to_be_bytes_2 m m-fits) ∙ ap (from_be_bytes w16) same ∙ from_be_bytes-to_be_bytes_2 n n-fits

pub number64_unique : (m n : ℕ) → m < 2 ^ 64 → n < 2 ^ 64 → to_be_bytes w64 m ≡ to_be_bytes w64 n → m ≡ n
number64_unique m n m-fits n-fits same =
    sym (from_be_bytes-to_be_bytes_8 m m-fits) ∙ ap (from_be_bytes w64) same ∙ from_be_bytes-to_be_bytes_8 n n-fits

-- ---- the manifest

pub length-manifest_body : (manifest : Manifest) → IsManifest manifest → length (manifest_body manifest) ≡ 44
unfolding manifest_body
length-manifest_body manifest is = omega (arith, is.digest_length)

-- a manifest of these numbers and this digest
abbrev pub manifest_from : ℕ → ℕ → ℕ → List ℕ → Manifest
manifest_from len k block digest = record { shape = record { len = len; k = k; block = block }; digest = digest }

-- what spells a manifest's body is that manifest
pub manifest_body_unique : (len k block : ℕ) (digest : List ℕ) (manifest : Manifest) → len < 2 ^ 64 → k < 2 ^ 16 → block < 2 ^ 16 → IsManifest manifest → manifest_body (manifest_from len k block digest) ≡ manifest_body manifest → manifest_from len k block digest ≡ manifest
unfolding manifest_body
manifest_body_unique len k block digest manifest len-fits k-fits block-fits is same =
    let shape = manifest.shape in
    let lens : to_be_bytes w64 len ≡ to_be_bytes w64 shape.len = cc in
    let ks : to_be_bytes w16 k ≡ to_be_bytes w16 shape.k = cc in
    let blocks : to_be_bytes w16 block ≡ to_be_bytes w16 shape.block = cc in
    let digests : digest ≡ manifest.digest = cc in
    let len-is : len ≡ shape.len = number64_unique len shape.len len-fits (omega (arith, is.shape.len)) lens in
    let k-is : k ≡ shape.k = number16_unique k shape.k k-fits (omega (arith, is.shape.k)) ks in
    let block-is : block ≡ shape.block = number16_unique block shape.block block-fits (omega (arith, is.shape.block)) blocks in
    rw (len-is, k-is, block-is, digests) refl

-- ---- frames

-- the bodies that one front spells are one
pub one_body : (kind : ℕ) (bytes a b x y : List ℕ) → length a < 2 ^ 32 → length b < 2 ^ 32 → bytes ≡ frame kind a ++ x → bytes ≡ frame kind b ++ y → (a ≡ b) × (x ≡ y)
one_body kind bytes a b x y a-fits b-fits here there =
    let same = frame_unique kind kind a b x y a-fits b-fits (sym here ∙ there) in
    (same.bodies, same.rests)
