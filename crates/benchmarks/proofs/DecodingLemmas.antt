-- A stream that is decoded in pieces, and the number of its frames.
use Rattle.std.proofs.Common.{◌≡◌, ℕ, List, [], ◌∷◌, ◌++◌, length, sym, subst, ap, ◌∙◌, arith}
use Rattle.std.proofs.lemmas.List.{append_assoc, append-nil}
use Rattle.std.specs.Prelude.{IsErrAnd, IsErrOf, Result, Err}
use Rattle.packet_wire.specs.Decoding.{AreStreamFrames, GoesOn, HasGrown, IsAfter}
use Rattle.packet_wire.specs.Frames.{frames_of}
use Rattle.packet_wire.specs.Stream.{Contents, IsStream}
use Rattle.packet_wire.specs.declared.decoder.Decoder.{Decoder}
use Rattle.packet_wire.specs.declared.fault.FeedError.{FeedError}
use Rattle.packet_wire.specs.declared.frame.Frame.{Frame}

-- the decoder is after all bytes but the rest, and has given these frames
pub record IsFedTo (bytes : List ℕ) (decoder : Decoder) (frames : List Frame) (rest : List ℕ) : Type 0 where
  pub fed : List ℕ
  pub bytes_are : bytes ≡ fed ++ rest
  pub after : IsAfter decoder fed frames

pub fed_more : (bytes : List ℕ) (decoder decoder' : Decoder) (frames frames' : List Frame) (rest piece rest' : List ℕ)
    → IsFedTo bytes decoder frames rest → rest ≡ piece ++ rest'
    → HasGrown frames frames' → GoesOn decoder piece decoder' frames frames' → IsFedTo bytes decoder' frames' rest'
fed_more bytes decoder decoder' frames frames' rest piece rest' is cut grown goes_on = record {
  fed = is.fed ++ piece;
  bytes_are = is.bytes_are ∙ ap (λ last. is.fed ++ last) cut ∙ sym (append_assoc is.fed piece rest');
  after = subst (λ given. IsAfter decoder' (is.fed ++ piece) given) (sym grown.1) (goes_on is.fed frames grown.0 is.after grown.1);
}

pub fed_all : (bytes : List ℕ) (decoder : Decoder) (frames : List Frame) (rest : List ℕ) → length rest ≡ 0
    → IsFedTo bytes decoder frames rest → IsAfter decoder bytes frames
fed_all bytes decoder frames (x ∷ rest) none is = absurd (omega arith)
fed_all bytes decoder frames [] none is =
    subst (λ fed. IsAfter decoder fed frames) (sym (is.bytes_are ∙ append-nil is.fed)) is.after

pub frames_counted : (bytes : List ℕ) (frames : List Frame)
    → ((contents contents' : Contents) → IsStream bytes contents → IsStream bytes contents' → contents ≡ contents')
    → AreStreamFrames bytes frames
    → (contents : Contents) → IsStream bytes contents → length frames ≡ length (frames_of contents)
frames_counted bytes frames one are contents is =
    ap (λ list. length list) are.2 ∙ ap (λ same. length (frames_of same)) (one are.0 contents are.1 is)

-- an error that is answered as it came
pub same_error : {T U : Type 0} (answer : Result T FeedError) (error wanted : FeedError)
    → IsErrAnd answer (λ given. given ≡ error) → IsErrOf answer wanted → IsErrOf {T = U} {E = FeedError} (Err error) wanted
same_error {T} {U} answer error wanted given is =
    let same : wanted ≡ error = subst (λ (r : Result T FeedError). IsErrAnd r (λ e. e ≡ error)) is given in
    let wrap : FeedError → Result U FeedError = λ e. Err e in
    ap wrap (sym same)
