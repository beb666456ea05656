-- What is refused for its boot alone is found by all other steps.
use Rattle.std.proofs.Common.{◌≡◌, ◌+◌, ◌%◌, ◌^◌, length, refl}
use Rattle.df_theory.specs.{Found.{IsFound, slot_behind}, Opens.{OpenAnswer, BadField, Behind, BadTrailer, BootSpent, Damaged, Found, LacksBlock, Lost, NoQuorum, Opened, Opens, Refused, Spent, Split, Unanswered, Unfit, Unknown, Unusable}, Shape.{Shape}, Units.{BlockPlace, CopyPlace, PreparePlace, ReplyPlace, Units}, View.{View, boot_of}}

spent_if : (sh : Shape) (image : Units) (x : OpenAnswer)
    → Opens sh image x → x ≡ Refused BootSpent → (v : View) × IsFound sh image v × (boot_of v ≡ 2 ^ 62)
spent_if sh image x (Split split) is = absurd (let both : Refused NoQuorum ≡ Refused BootSpent = is in cc)
spent_if sh image x (Unusable c chosen fails) is = absurd (let both : Refused BadField ≡ Refused BootSpent = is in cc)
spent_if sh image x (LacksBlock c a k usable reads lacks) is =
    absurd (let both : Refused (Damaged (BlockPlace a)) ≡ Refused BootSpent = is in cc)
spent_if sh image x (BadTrailer c usable shown fails) is = absurd (let both : Refused BadField ≡ Refused BootSpent = is in cc)
spent_if sh image x (Behind b n readable behind lowest) is = absurd (let both : Refused (Damaged (CopyPlace n)) ≡ Refused BootSpent = is in cc)
spent_if sh image x (Unknown b a readable not_behind lacks) is =
    absurd (let both : Refused (Damaged (PreparePlace (a % sh.layout.slots))) ≡ Refused BootSpent = is in cc)
spent_if sh image x (Unfit b front readable not_behind unfit) is = absurd (let both : Refused (Damaged (PreparePlace ((b.content.op + length front + 1) % sh.layout.slots))) ≡ Refused BootSpent = is in cc)
spent_if sh image x (Lost b tail more reaches reach lost) is =
    absurd (let both : Refused (Damaged (PreparePlace (slot_behind sh b tail more))) ≡ Refused BootSpent = is in cc)
spent_if sh image x (Unanswered b tail n k reaches lacks) is =
    absurd (let both : Refused (Damaged (ReplyPlace k)) ≡ Refused BootSpent = is in cc)
spent_if sh image x (Spent v found spent) is = (v, found, spent)
spent_if sh image x (Opened v found left) is = absurd (let both : Found v ≡ Refused BootSpent = is in cc)

pub spent_found : (sh : Shape) (image : Units) → Opens sh image (Refused BootSpent) → (v : View) × IsFound sh image v × (boot_of v ≡ 2 ^ 62)
spent_found sh image opens = spent_if sh image (Refused BootSpent) opens refl
