-- From the records of all bases to the file.
use Rattle.std.proofs.Common.{◌≡◌, ◌≤◌, ◌<◌, ◌*◌, ℕ, List, [], ◌∷◌, ◌++◌, length, take, refl, ap, subst, sym, ◌∙◌, arith}
use Rattle.std.specs.List.{All, AllZip, flat_map}
use Rattle.std.proofs.Math.Nat.{mul_assoc}
use Rattle.std.proofs.lemmas.Grind.{div_ceil_times}
use Rattle.std.proofs.lemmas.List.{append-nil, length-append, length-map, length-take-le}
use Rattle.std.proofs.lemmas.List.Concat.{flat_map-append}
use Rattle.std.proofs.lemmas.List.Elements.{All-append, All-head, All-nil, All-tail}
use Rattle.linear_spec.specs.declared.packet.Packet.{Packet}
use Rattle.linear_spec.specs.Symbols.{IsVector, be_bytes_of}
use Rattle.linear_spec.specs.declared.record.Record.{Record}
use Rattle.linear_spec.specs.Packet.{Fits}
use Rattle.linear_spec.specs.SequentialBasis.{packets_of}
use Rattle.back_subst.specs.Shape.{payload_length}
use Rattle.shared_basis.specs.declared.params.Closed.{Closed}
use Rattle.generation.specs.Shape.{Dimensions, IsShape, generations_of, symbols_per_block}
use Rattle.generation.specs.Blocks.{file_of}
use Rattle.avalanche_cli.specs.Files.{AreSolvedBy, IsOnlyFileOf, SolveEach}
use Rattle.linear_spec.specs.Rows.{StandForAll}
use Rattle.linear_spec.specs.Solving.{Solves, IsOnlySolution}
use Rattle.avalanche_cli.specs.Reception.{AppendsSolution, AreSolvedBytes, IsClosedBasis, IsFull}

-- the payloads of records have their common length
pub payload_is : (k s : ℕ) (records : List Record) → 0 < length records → All (Fits k s) (packets_of records) → payload_length records ≡ s
payload_is k s [] some fit = absurd (omega arith)
payload_is k s (first ∷ records) some fit = (All-head (Fits k s) first.packet (packets_of records) fit).payload.count

-- the rows of a full basis, measured by its records
pub own_stand : (k s : ℕ) (basis : Closed) → 0 < k → IsClosedBasis k s basis → IsFull k basis → StandForAll (length basis.records.items) (payload_length basis.records.items) (packets_of basis.records.items) basis.rows.items
own_stand k s basis some is full =
    let records = basis.records.items in
    let payload : payload_length records ≡ s = payload_is k s records (omega arith) is.fit in
    subst (λ n. StandForAll n (payload_length records) (packets_of records) basis.rows.items) (sym full)
    (subst (λ m. StandForAll k m (packets_of records) basis.rows.items) (sym payload) is.stand)

-- its solution, measured by the shape
pub appended_of : (k s : ℕ) (basis : Closed) (blocks : List (List ℕ)) (before after : List ℕ) → 0 < k → IsClosedBasis k s basis → IsFull k basis → Solves (length basis.records.items) (payload_length basis.records.items) (packets_of basis.records.items) blocks → IsOnlySolution (length basis.records.items) (payload_length basis.records.items) (packets_of basis.records.items) blocks → after ≡ before ++ flat_map be_bytes_of blocks → AppendsSolution k s basis before after
appended_of k s basis blocks before after some is full solves only appended =
    let records = basis.records.items in
    let own = packets_of records in
    let payload : payload_length records ≡ s = payload_is k s records (omega arith) is.fit in
    record {
      blocks = blocks;
      solves = subst (λ n. Solves n s own blocks) full (subst (λ m. Solves (length records) m own blocks) payload solves);
      only = subst (λ n. IsOnlySolution n s own blocks) full (subst (λ m. IsOnlySolution (length records) m own blocks) payload only);
      appended = appended;
    }

-- ---- pairs of lists

zip_more : {X Y : Type 0} (R : X → Y → Type 0) (xs : List X) (ys : List Y) (x : X) (y : Y) → AllZip R xs ys → R x y → AllZip R (xs ++ x ∷ []) (ys ++ y ∷ [])
zip_more R [] [] x y all here = (here, tt)
zip_more R [] (other ∷ ys) x y all here = absurd all
zip_more R (first ∷ xs) [] x y all here = absurd all
zip_more R (first ∷ xs) (other ∷ ys) x y all here = (all.0, zip_more R xs ys x y all.1 here)

-- what stands beside a last member
record IsLast {X Y : Type 0} (R : X → Y → Type 0) (xs : List X) (x : X) (zs : List Y) : Type 0 where
  ys : List Y
  y : Y
  is : zs ≡ ys ++ y ∷ []
  all : AllZip R xs ys
  here : R x y

zip_last : {X Y : Type 0} (R : X → Y → Type 0) (xs : List X) (x : X) (zs : List Y) → AllZip R (xs ++ x ∷ []) zs → IsLast R xs x zs
zip_last R [] x [] all = absurd all
zip_last R [] x (z ∷ []) all = record { ys = []; y = z; is = refl; all = tt; here = all.0 }
zip_last R [] x (z ∷ more ∷ zs) all = absurd all.1
zip_last R (first ∷ xs) x [] all = absurd all
zip_last R (first ∷ xs) x (z ∷ zs) all =
    let rest = zip_last R xs x zs all.1 in
    record { ys = z ∷ rest.ys; y = rest.y; is = ap (λ l. z ∷ l) rest.is; all = (all.0, rest.all); here = rest.here }

-- ---- one basis more

abbrev pub joined_of : List (List (List ℕ)) → List (List ℕ)
joined_of blocks = flat_map (λ generation. generation) blocks

joined_more : (blocks : List (List (List ℕ))) (more : List (List ℕ)) → joined_of (blocks ++ more ∷ []) ≡ joined_of blocks ++ more
joined_more blocks more = flat_map-append (λ (l : List (List ℕ)). l) blocks (more ∷ []) ∙ ap (λ (l : List (List ℕ)). joined_of blocks ++ l) (append-nil more)

pub solved_more : (k s : ℕ) (packets : List (List Packet)) (basis : Closed) (before after : List ℕ) → IsFull k basis → AreSolvedBytes k s packets before → AppendsSolution k s basis before after → AreSolvedBytes k s (packets ++ packets_of basis.records.items ∷ []) after
solved_more k s packets basis before after full are appends =
    let own = packets_of basis.records.items in
    let counted : length own ≡ k = length-map basis.records.items (λ (r : Record). r.packet) ∙ full in
    record {
      blocks = are.blocks ++ appends.blocks ∷ [];
      solve = zip_more (AreSolvedBy k s) packets are.blocks own appends.blocks are.solve (record { full = counted; solves = appends.solves });
      only = λ others solve.
          let last = zip_last (AreSolvedBy k s) packets own others solve in
          let front : last.ys ≡ are.blocks = are.only last.ys last.all in
          let here : last.y ≡ appends.blocks = appends.only last.y last.here.solves in
          last.is ∙ ap (λ (l : List (List (List ℕ))). l ++ last.y ∷ []) front ∙ ap (λ (b : List (List ℕ)). are.blocks ++ b ∷ []) here;
      bytes_are = appends.appended ∙ ap (λ (l : List ℕ). l ++ flat_map be_bytes_of appends.blocks) are.bytes_are
          ∙ sym (flat_map-append be_bytes_of (joined_of are.blocks) appends.blocks) ∙ ap (flat_map be_bytes_of) (sym (joined_more are.blocks appends.blocks));
    }

-- ---- the length of the file

joined_vectors : (k s : ℕ) (packets : List (List Packet)) (blocks : List (List (List ℕ))) → SolveEach k s packets blocks → All (IsVector s) (joined_of blocks)
joined_vectors k s [] [] solve = All-nil (IsVector s)
joined_vectors k s [] (first ∷ blocks) solve = absurd solve
joined_vectors k s (p ∷ packets) [] solve = absurd solve
joined_vectors k s (p ∷ packets) (first ∷ blocks) solve = All-append (IsVector s) first (joined_of blocks) solve.0.solves.vectors (joined_vectors k s packets blocks solve.1)

joined_count : (k s : ℕ) (packets : List (List Packet)) (blocks : List (List (List ℕ))) → SolveEach k s packets blocks → length (joined_of blocks) ≡ length packets * k
joined_count k s [] [] solve = omega arith
joined_count k s [] (first ∷ blocks) solve = absurd solve
joined_count k s (p ∷ packets) [] solve = absurd solve
joined_count k s (p ∷ packets) (first ∷ blocks) solve = omega (arith, length-append first (joined_of blocks), solve.0.solves.count, joined_count k s packets blocks solve.1)

-- the law of the bytes of symbols
abbrev pub TwiceLaw : Type 0
TwiceLaw = (symbols : List ℕ) → length (be_bytes_of symbols) ≡ 2 * length symbols

byte_count : TwiceLaw → (s : ℕ) (vectors : List (List ℕ)) → All (IsVector s) vectors → length (flat_map be_bytes_of vectors) ≡ length vectors * (2 * s)
byte_count twice s [] all = omega arith
byte_count twice s (v ∷ vs) all =
    let first = All-head (IsVector s) v vs all in
    omega (arith, length-append (be_bytes_of v) (flat_map be_bytes_of vs), twice v, first.count, byte_count twice s vs (All-tail (IsVector s) v vs all))

-- the blocks of all generations have the room of the file
len_within : (shape : Dimensions) → IsShape shape → shape.len ≤ generations_of shape * shape.k * shape.block
unfolding generations_of
len_within shape is =
    let room : 0 < shape.k * shape.block = grind arith in
    rw (mul_assoc (generations_of shape) shape.k shape.block) (div_ceil_times shape.len (shape.k * shape.block) room).0

-- ---- the file

pub only_file : TwiceLaw → (shape : Dimensions) (packets : List (List Packet)) (bytes : List ℕ) → IsShape shape → length packets ≡ generations_of shape → AreSolvedBytes shape.k (symbols_per_block shape) packets bytes → IsOnlyFileOf shape packets (take shape.len bytes)
unfolding file_of
only_file twice shape packets bytes is count are =
    let k = shape.k in
    let s = symbols_per_block shape in
    let even : 2 * symbols_per_block shape ≡ shape.block = omega arith in
    let vectors : All (IsVector s) (joined_of are.blocks) = joined_vectors k s packets are.blocks are.solve in
    let whole : length (flat_map be_bytes_of (joined_of are.blocks)) ≡ length (joined_of are.blocks) * (2 * symbols_per_block shape) = byte_count twice s (joined_of are.blocks) vectors in
    let all_bytes : length bytes ≡ generations_of shape * k * shape.block = rw (joined_count k s packets are.blocks are.solve, count, even) at (ap length are.bytes_are ∙ whole) in
    let within : shape.len ≤ length bytes = subst (λ (n : ℕ). shape.len ≤ n) (sym all_bytes) (len_within shape is) in
    record {
      is = record { blocks = are.blocks; solve = are.solve; file_is = ap (take shape.len) are.bytes_are };
      only = λ other its. its.file_is ∙ ap (λ (l : List (List (List ℕ))). take shape.len (flat_map be_bytes_of (joined_of l))) (are.only its.blocks its.solve) ∙ ap (take shape.len) (sym are.bytes_are);
      length_is = length-take-le shape.len bytes within;
    }
