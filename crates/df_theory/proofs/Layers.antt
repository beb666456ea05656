-- The steps of an open, one within the other: what the proofs on its answer walk through.
use Rattle.std.proofs.Common.{◌≡◌, ◌⊎◌, inl, inr, ℕ, ◌+◌, ◌%◌, ◌^◌, ◌<◌, List, length, refl}
use Rattle.df_theory.specs.{Units.{BlockPlace, Content, CopyPlace, Message, PreparePlace, ReplyPlace, Units}, Sessions.{sessions_after}, Shape.{Shape}, Copies.{IsChosen, IsSplit}, Trailer.{IsReference}, View.{Checkpoint, PassesTests, View, boot_of}, Found.{IsReach, IsReplies, IsStored, IsTail, NotBehind, NotLost, slot_behind, IsFound}, Opens.{OpenAnswer, BadField, BootSpent, Spent, BadTrailer, Behind, Damaged, Found, IsLowest, IsReadable, IsShown, IsUnfit, LacksBlock, LacksKnown, LacksReply, Lost, NoQuorum, Opened, Opens, ReadsTo, Refused, Split, Unanswered, Unfit, Unknown, Unusable}}

-- the steps one within the other: from the last to the first
abbrev pub AnswersLast : View → OpenAnswer → Type 0
AnswersLast v answer = ((boot_of v < 2 ^ 62) × (answer ≡ Found v)) ⊎ ((boot_of v ≡ 2 ^ 62) × (answer ≡ Refused BootSpent))

abbrev pub AnswersReplies : Units → Checkpoint → List Message → OpenAnswer → Type 0
AnswersReplies image b tail answer = (n : ℕ) × IsReplies image b.content tail n
    × (((k : ℕ) × LacksReply image b.content (sessions_after b.parts.sessions tail) n k × (answer ≡ Refused (Damaged (ReplyPlace k))))
    ⊎ ((v : View) × (v.checkpoint ≡ b) × (v.tail ≡ tail) × (v.replies ≡ n) × IsStored image v × AnswersLast v answer))

abbrev pub AnswersTail : Shape → Units → Checkpoint → OpenAnswer → Type 0
AnswersTail sh image b answer = (tail : List Message) × IsTail sh image b tail
    × (((NotLost image b.content (b.content.op + length tail) → ⊥) × ((more : List Message) × IsReach sh image b tail more × (answer ≡ Refused (Damaged (PreparePlace (slot_behind sh b tail more)))))) ⊎ (NotLost image b.content (b.content.op + length tail) × AnswersReplies image b tail answer))

abbrev pub AnswersKnown : Shape → Units → Checkpoint → OpenAnswer → Type 0
AnswersKnown sh image b answer =
    ((a : ℕ) × LacksKnown sh image b.content a × (answer ≡ Refused (Damaged (PreparePlace (a % sh.layout.slots)))))
    ⊎ ((front : List Message)
    × IsUnfit sh image b front × (answer ≡ Refused (Damaged (PreparePlace ((b.content.op + length front + 1) % sh.layout.slots)))))
    ⊎ AnswersTail sh image b answer

abbrev pub AnswersTraces : Shape → Units → Checkpoint → OpenAnswer → Type 0
AnswersTraces sh image b answer =
    ((n : ℕ) × (NotBehind sh image b.content → ⊥) × IsLowest image b.content n × (answer ≡ Refused (Damaged (CopyPlace n))))
    ⊎ (NotBehind sh image b.content × AnswersKnown sh image b answer)

abbrev pub AnswersTrailer : Shape → Units → Content → OpenAnswer → Type 0
AnswersTrailer sh image c answer =
    ((a : ℕ) × (k : ℕ) × ReadsTo sh image c a k × (IsShown image a k → ⊥) × (answer ≡ Refused (Damaged (BlockPlace a))))
    ⊎ (((a k : ℕ) → ReadsTo sh image c a k → IsShown image a k)
    × ((b : Checkpoint) → b.content ≡ c → IsReadable sh image b → ⊥) × (answer ≡ Refused BadField))
    ⊎ ((b : Checkpoint) × (b.content ≡ c) × IsReadable sh image b × AnswersTraces sh image b answer)

abbrev pub AnswersFields : Shape → Units → Content → OpenAnswer → Type 0
AnswersFields sh image c answer = ((PassesTests sh c → IsReference sh.layout c → ⊥) × (answer ≡ Refused BadField))
    ⊎ (PassesTests sh c × IsReference sh.layout c × AnswersTrailer sh image c answer)

abbrev pub Answers : Shape → Units → OpenAnswer → Type 0
Answers sh image answer = (IsSplit image × (answer ≡ Refused NoQuorum)) ⊎ ((c : Content) × IsChosen image c × AnswersFields sh image c answer)

-- a checkpoint that is read passes the steps up to its own
from_readable : (sh : Shape) (image : Units) (b : Checkpoint) (x : OpenAnswer)
    → IsReadable sh image b → AnswersTraces sh image b x → Answers sh image x
from_readable sh image b x readable traces =
    inr (b.content, readable.chosen, inr (readable.sound.tests, readable.sound.trailer.reference, inr (inr (b, refl, readable, traces))))

answers_found : (sh : Shape) (image : Units) (v : View) (x : OpenAnswer) → IsFound sh image v → AnswersLast v x → Answers sh image x
answers_found sh image v x f last =
    from_readable sh image v.checkpoint x (record { chosen = f.chosen; sound = f.checkpoint; shown = f.chain_shown })
    (inr (f.not_behind, inr (inr (v.tail, f.tail, inr (f.not_lost, (v.replies, f.replies, inr (v, refl, refl, refl, f.stored, last)))))))

pub answers_of : (sh : Shape) (image : Units) (x : OpenAnswer) → Opens sh image x → Answers sh image x
answers_of sh image x (Split split) = inl (split, refl)
answers_of sh image x (Unusable c chosen fails) = inr (c, chosen, inl (fails, refl))
answers_of sh image x (LacksBlock c a k usable reads lacks) =
    inr (c, usable.chosen, inr (usable.tests, usable.reference, inl (a, k, reads, lacks, refl)))
answers_of sh image x (BadTrailer c usable shown fails) =
    inr (c, usable.chosen, inr (usable.tests, usable.reference, inr (inl (shown, fails, refl))))
answers_of sh image x (Behind b n readable behind lowest) = from_readable sh image b x readable (inl (n, behind, lowest, refl))
answers_of sh image x (Unknown b a readable not_behind lacks) = from_readable sh image b x readable (inr (not_behind, inl (a, lacks, refl)))
answers_of sh image x (Unfit b front readable not_behind unfit) =
    from_readable sh image b x readable (inr (not_behind, inr (inl (front, unfit, refl))))
answers_of sh image x (Lost b tail more reaches reach lost) = from_readable
    sh image b x reaches.readable (inr (reaches.not_behind, inr (inr (tail, reaches.tail_is, inl (lost, (more, reach, refl))))))
answers_of sh image x (Unanswered b tail n k reaches lacks) =
    from_readable sh image b x reaches.reaches.readable (inr (reaches.reaches.not_behind, inr (inr (tail, reaches.reaches.tail_is, inr (reaches.not_lost, (n, reaches.replies, inl (k, lacks, refl)))))))
answers_of sh image x (Spent v f spent) = answers_found sh image v x f (inr (spent, refl))
answers_of sh image x (Opened v f left) = answers_found sh image v x f (inl (left, refl))
