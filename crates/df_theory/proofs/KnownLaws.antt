-- What an open refuses of the prepares that the superblock names.
use Rattle.std.proofs.{Common.{inl, inr, ◌+◌, ◌-◌, List, [], ◌∷◌, ◌++◌, length, take, ◌∙◌, arith, length-append}, lemmas.Bool.{cases_lt}}
use Rattle.df_theory.{specs.{Units.{Message}, ViewLaws.{FirstVersionLaw, FoundKnownLaw, KnownEndsLaw, OneKnownLaw}}, proofs.Knowns.{named_all, named_fit, none_lacking, not_further, one_lacking, tail_named}}

pub one_known_law : OneKnownLaw
one_known_law sh image b a e front rear = (
  λ one two. one_lacking sh image b.content a e one two,
  λ one two. none_lacking sh image b.content.op (front ++ two.next ∷ two.rest) b.content a two.known two.count one.above one,
  λ one two. elim (cases_lt (length front) (length rear)) [
    | inl less ↦ absurd (not_further sh image b front rear one two less)
    | inr more ↦ elim (cases_lt
        (length rear) (length front)) [ inl less ↦ absurd (not_further sh image b rear front two one less) | inr same ↦ omega arith ]
  ],
)

pub found_known_law : FoundKnownLaw
found_known_law sh image v f = let named = tail_named sh image v.checkpoint v.tail f.tail f.checkpoint.tests.pin.0 in
    let front : List Message = take (v.checkpoint.content.pin - v.checkpoint.content.op) v.tail in
    (λ a lacks. named_all sh image v.checkpoint front named a lacks, λ part unfit. named_fit sh image v.checkpoint front part named unfit)

pub known_ends_law : KnownEndsLaw
known_ends_law n image op checksum parent [] known some = absurd (omega arith)
known_ends_law n image op checksum parent (p ∷ []) known some = known.1
known_ends_law n image op checksum parent (p ∷ q ∷ ps) known some =
    known_ends_law n image (op + 1) checksum p.header.checksum (q ∷ ps) known.2 (omega arith)

pub first_version_law : FirstVersionLaw
first_version_law sh image b first tests = let one = tests.of.one (tests.version ∙ first) in
    (λ a lacks. omega (arith, lacks.count, lacks.above, one.1), λ front unfit. omega (arith, unfit.count, length-append front (unfit.next ∷ unfit.rest), one.1), one.0)
