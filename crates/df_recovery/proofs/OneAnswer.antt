-- An image has one answer.
use Rattle.std.proofs.{Common.{◌≡◌, ℕ, true, List, replicate, Some, None, refl, sym, ◌∙◌, ap}, lemmas.Slice.Eq.{bytes_eq-Decides}}
use Rattle.{df_base.specs.Image.{Image, blank}, df_layout.specs.declared.damage.Class.{Class}}
use Rattle.df_format.{specs.{Copies.{Content, content_at, is_blank_copy}, declared.superblock.SuperFault.{SuperFault}, declared.superblock.SuperFault.TheVariants.{Version as OtherVersion, BadField as BrokenField}, declared.superblock.SuperFields.{SuperFields}}, proofs.Laws.{same_copy, blank_copy_none}}
use Rattle.df_quorum.{specs.Quorum.{CopiesAgree, IsChosenContent}, proofs.Laws.{one_law}}
use Rattle.df_recovery.specs.{Opening.{IsUnformatted, HasFaultAs, HasSuperAs, fault_as}, OpeningLaws.{SuperOrRefusal, OneSuper, OneRefusal}}
use Rattle.df_model.specs.declared.errors.OpenError.TheVariants.{NotFormatted, NoQuorum, Version, BadField, LayoutDiffers, Damaged, DiskFault, BootSpent}

one_content : (image : Image) (c d : Content) → IsChosenContent (content_at image) c → IsChosenContent (content_at image) d → c ≡ d
one_content image c d one two = one_law (content_at image) c d one two

-- one content has one fault, or none
one_fault : (version : ℕ) (image : Image) (x y : SuperFault) → HasFaultAs version image x → HasFaultAs version image y → x ≡ y
one_fault version image x y one two =
    let same : one.content ≡ two.content = one_content image one.content two.content one.chosen two.chosen in
    let fault : fault_as version two.content.fields ≡ Some x = rw same at one.broken in
    let other : fault_as version two.content.fields ≡ Some y = two.broken in cc

no_fault : (version : ℕ) (image : Image) (f : SuperFields) (x : SuperFault) → HasSuperAs version image f → HasFaultAs version image x → ⊥
no_fault version image f x found faulty =
    let same : faulty.content ≡ found.content = one_content image faulty.content found.content faulty.chosen found.chosen in
    let fault : fault_as version found.content.fields ≡ Some x = rw same at faulty.broken in
    let none : fault_as version found.content.fields ≡ None = ap (fault_as version) found.fields ∙ found.usable in cc

pub one_super_as : OneSuper
one_super_as version asked image f g one two =
    let same : one.content ≡ two.content = one_content image one.content two.content one.chosen two.chosen in
    sym one.fields ∙ ap (λ (c : Content). c.fields) same ∙ two.fields

-- a sector of zeros shows what a blank one does
blank_sector : (image : Image) (n : ℕ) → is_blank_copy (image n) ≡ true → content_at image n ≡ content_at blank n
unfolding is_blank_copy blank
blank_sector image n zeros = same_copy image blank n ((bytes_eq-Decides (image n) (replicate 4096 0)).0 zeros)

-- sectors of zeros agree on nothing
nothing_chosen : (image : Image) (c : Content) → IsUnformatted image → CopiesAgree (content_at image) c → ⊥
nothing_chosen image c zeros agree = let none : content_at image agree.second ≡ None =
    blank_sector image agree.second (zeros agree.second agree.inside) ∙ blank_copy_none agree.second in
    let some : content_at image agree.second ≡ Some c = agree.at_second in cc

pub super_or_refusal_as : SuperOrRefusal
super_or_refusal_as version image f NotFormatted found zeros = nothing_chosen image found.content zeros found.chosen.agreed
super_or_refusal_as version image f (NoQuorum classes) found none = none.split found.content found.chosen.agreed
super_or_refusal_as version image f (Version number) found faulty = no_fault version image f (OtherVersion number) found faulty
super_or_refusal_as version image f (BadField field value) found faulty = no_fault version image f (BrokenField field value) found faulty
super_or_refusal_as version image f (LayoutDiffers reserved there) found none = none
super_or_refusal_as version image f (Damaged place class) found none = none
super_or_refusal_as version image f DiskFault found none = none
super_or_refusal_as version image f BootSpent found none = none

pub one_refusal_as : OneRefusal
one_refusal_as version image NotFormatted NotFormatted one two = refl
one_refusal_as version image NotFormatted (NoQuorum classes) zeros none = absurd (none.formatted zeros)
one_refusal_as version image NotFormatted (Version number) zeros faulty = absurd (nothing_chosen image faulty.content zeros faulty.chosen.agreed)
one_refusal_as version image NotFormatted (BadField field value) zeros faulty =
    absurd (nothing_chosen image faulty.content zeros faulty.chosen.agreed)
one_refusal_as version image (NoQuorum classes) NotFormatted none zeros = absurd (none.formatted zeros)
one_refusal_as version image (NoQuorum classes) (NoQuorum others) none two = ap (λ (l : List Class). NoQuorum l) (none.shown ∙ sym two.shown)
one_refusal_as version image (NoQuorum classes) (Version number) none faulty = absurd (none.split faulty.content faulty.chosen.agreed)
one_refusal_as version image (NoQuorum classes) (BadField field value) none faulty = absurd (none.split faulty.content faulty.chosen.agreed)
one_refusal_as version image (Version number) NotFormatted faulty zeros = absurd (nothing_chosen image faulty.content zeros faulty.chosen.agreed)
one_refusal_as version image (BadField field value) NotFormatted faulty zeros =
    absurd (nothing_chosen image faulty.content zeros faulty.chosen.agreed)
one_refusal_as version image (Version number) (NoQuorum classes) faulty none = absurd (none.split faulty.content faulty.chosen.agreed)
one_refusal_as version image (BadField field value) (NoQuorum classes) faulty none = absurd (none.split faulty.content faulty.chosen.agreed)
one_refusal_as version image (Version number) (Version other) one two =
    (let same = one_fault version image (OtherVersion number) (OtherVersion other) one two in cc)
one_refusal_as version image (Version number) (BadField field value) one two =
    (let same = one_fault version image (OtherVersion number) (BrokenField field value) one two in absurd (cc))
one_refusal_as version image (BadField field value) (Version number) one two =
    (let same = one_fault version image (BrokenField field value) (OtherVersion number) one two in absurd (cc))
one_refusal_as version image (BadField field value) (BadField other number) one two =
    (let same = one_fault version image (BrokenField field value) (BrokenField other number) one two in cc)
one_refusal_as version image (LayoutDiffers reserved there) e none two = absurd none
one_refusal_as version image (Damaged place class) e none two = absurd none
one_refusal_as version image DiskFault e none two = absurd none
one_refusal_as version image NotFormatted (LayoutDiffers reserved there) one none = absurd none
one_refusal_as version image NotFormatted (Damaged place class) one none = absurd none
one_refusal_as version image NotFormatted DiskFault one none = absurd none
one_refusal_as version image (NoQuorum classes) (LayoutDiffers reserved there) one none = absurd none
one_refusal_as version image (NoQuorum classes) (Damaged place class) one none = absurd none
one_refusal_as version image (NoQuorum classes) DiskFault one none = absurd none
one_refusal_as version image (Version number) (LayoutDiffers reserved there) one none = absurd none
one_refusal_as version image (Version number) (Damaged place class) one none = absurd none
one_refusal_as version image (Version number) DiskFault one none = absurd none
one_refusal_as version image (BadField field value) (LayoutDiffers reserved there) one none = absurd none
one_refusal_as version image (BadField field value) (Damaged place class) one none = absurd none
one_refusal_as version image (BadField field value) DiskFault one none = absurd none
one_refusal_as version image BootSpent e none two = absurd none
one_refusal_as version image NotFormatted BootSpent one none = absurd none
one_refusal_as version image (NoQuorum classes) BootSpent one none = absurd none
one_refusal_as version image (Version number) BootSpent one none = absurd none
one_refusal_as version image (BadField field value) BootSpent one none = absurd none
