-- Commands one after the other don't tell two things apart that agree.
use Rattle.std.proofs.Common.{◌≡◌, ℕ, ◌+◌, List, [], ◌∷◌, length, Option, Some, None, refl, ◌∙◌, ap, arith}
use Rattle.df_base.proofs.Laws.{AreBytes-check_of, field_at-lt}
use Rattle.df_format.specs.{Making.{for_body}, Spelling.{spelling_rest}, Super.{covered_bytes}, declared.header.Header.{Header}}
use Rattle.df_theory.specs.Units.{AnyUnit, BlockPlace, Place, PreparePlace, ReplyPlace, or_else}
use Rattle.df_model.{specs.{Codec.{AreChecksums, IsChecksum}, Commands.{Advance, Answer, Append, Command, Flush, Reply, WriteBlock, supplied_sums}, Making.{block_of, finishing_content, next_address, place_of_reply, prepare_in, prepare_of, reply_of, trailer_block}, Memory.{Course, Memory, memory_of}, Sense.{IsWork}, Supply.{Shown, checksums_given, group_sums, next as over, puts_of, result, shown_after, step_sum, supplied, trailer_sum}, Work.{Request, Work}}, proofs.Laws.{sense_law}}
use Rattle.df_replica.specs.{Below.{DataFile, shape, spelling}, Leaving.{IsReadPlace}}
use Rattle.df_session.{specs.{Agreeing.{AgreeShown}, Results.{ResultAgrees}, Codec.{block_header, codec, fields_of, prepare_header, reply_header, sum_of_unit}}, proofs.Agreed.{next_agrees}}

-- ---- what is made has a checksum

small : (h : Header) (body : List ℕ) → IsChecksum (sum_of_unit h body)
small h body = field_at-lt 16 0 _ (AreBytes-check_of (spelling_rest (for_body h body)))

module _ (file : DataFile) (m : Memory) where
  left_small : (r : Course) (left : List ℕ) → IsChecksum (trailer_sum (codec file) m r left)
  left_small r [] = field_at-lt 16 0 _ (AreBytes-check_of (covered_bytes (fields_of file (finishing_content m r 0))))
  left_small r (a ∷ more) = small (block_header file a (trailer_block m r 0)) (trailer_block m r 0).body

  step_small : (o : Option Course) → IsChecksum (step_sum (codec file) m o)
  step_small None = omega arith
  step_small (Some r) = left_small r r.left

  group_small : (first last op parent : ℕ) (rs : List Request) → AreChecksums (group_sums (codec file) m first last op parent rs)
  group_small first last op parent [] = tt
  group_small first last op parent (r ∷ rs) = let p = prepare_in m first last op parent 0 r in
      (small (prepare_header file p.header) p.body, group_small first last (op + 1) ((codec file).prepare p) rs)

  given_small : (c : Command) → AreChecksums (checksums_given (codec file) m c)
  given_small (Append client request body) = (small (prepare_header file (prepare_of m 0 client request body).header) body, tt)
  given_small Flush = group_small (m.head + 1) (m.head + length m.staged) (m.head + 1) m.head_checksum m.staged
  given_small (Reply op body) = (small (reply_header file (place_of_reply m) (reply_of m 0 body).header) body, tt)
  given_small (WriteBlock kind body) = (small (block_header file (next_address m) (block_of m.content.boot 0 kind body)) body, tt)
  given_small Advance = (step_small m.running, tt)
  given_small command = tt

  supplied_small : (shown : Shown) (c : Command) → AreChecksums (supplied_sums (supplied (codec file) shown m c))
  supplied_small shown (Append client request body) = given_small (Append client request body)
  supplied_small shown Flush = given_small Flush
  supplied_small shown (Reply op body) = given_small (Reply op body)
  supplied_small shown (WriteBlock kind body) = given_small (WriteBlock kind body)
  supplied_small shown Advance = given_small Advance
  supplied_small shown command = tt

-- ---- what is shown then

module _ (file : DataFile) (one other : Shown) (m : Memory) (c : Command) (agree : AgreeShown file.layout one other) where
  abbrev put : Place → Option AnyUnit
  put = puts_of m (checksums_given (codec file) m c) c

  classes_then : (place : Place) → IsReadPlace file.layout place
      → (o : Option AnyUnit) → put place ≡ o → or_else o (one.units place) ≡ None → one.damage place ≡ other.damage place
  classes_then place read None is none = agree.classes place read none
  classes_then place read (Some x) is none = absurd (cc)

  agrees_then : AgreeShown file.layout (shown_after (codec file) one m c) (shown_after (codec file) other m c)
  agrees_then = record {
    units = record {
      prepare = λ k. ap (or_else (put (PreparePlace k))) (agree.units.prepare k);
      reply = λ k. ap (or_else (put (ReplyPlace k))) (agree.units.reply k);
      block = λ k. ap (or_else (put (BlockPlace k))) (agree.units.block k);
    };
    classes = λ place read none. classes_then place read (put place) refl none;
  }

-- ---- one after the other

pub result_agrees : ResultAgrees
result_agrees file one other w [] agree work range = refl
result_agrees file one other w (c ∷ cs) agree work range = let m = memory_of (shape file) (spelling file) w in
    let same = next_agrees file one other agree w work c in
    let later : IsWork (shape file) (spelling file) (over (shape file) (codec file) one w c).0 =
    sense_law (shape file)
    (spelling file) w (supplied (codec file) one m c) c (record { checksums = supplied_small file m one c; fields = range.0 }) work in
    let rest = result_agrees file (shown_after (codec file) one m c) (shown_after (codec file) other m c)
    (over (shape file) (codec file) one w c).0 cs (agrees_then file one other m c agree) later range.1 in (λ i. (same i).1 ∷ rest i)
    ∙ ap (λ (x : Work × Answer).
    (over (shape file) (codec file) other w c).1 ∷ result (shape file) (codec file) (shown_after (codec file) other m c) x.0 cs) same
