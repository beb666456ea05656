-- The write of one unit.
use Rattle.std.proofs.Common.{◌≡◌, Bool, if◌then◌else◌, true, false, Some, None, refl, sym, ap, eqb-true, eq-eqb}
use Rattle.df_theory.specs.{Units.{AnyUnit, BlockPlace, CopyPlace, HeaderPlace, Place, PreparePlace, ReplyPlace}, UnitLog.{same_place}, WriterLaws.{PutOneLaw}}

pub same_here : (place : Place) → same_place place place ≡ true
same_here (CopyPlace n) = eq-eqb n n refl
same_here (HeaderPlace n) = eq-eqb n n refl
same_here (PreparePlace n) = eq-eqb n n refl
same_here (ReplyPlace n) = eq-eqb n n refl
same_here (BlockPlace n) = eq-eqb n n refl

pub same_is : (place other : Place) → same_place place other ≡ true → other ≡ place
same_is (CopyPlace n) (CopyPlace m) is = ap CopyPlace (sym (eqb-true n m is))
same_is (HeaderPlace n) (HeaderPlace m) is = ap HeaderPlace (sym (eqb-true n m is))
same_is (PreparePlace n) (PreparePlace m) is = ap PreparePlace (sym (eqb-true n m is))
same_is (ReplyPlace n) (ReplyPlace m) is = ap ReplyPlace (sym (eqb-true n m is))
same_is (BlockPlace n) (BlockPlace m) is = ap BlockPlace (sym (eqb-true n m is))
same_is place other is = absurd (let no_unit : false ≡ true = is in cc)

pub put_one_law : PutOneLaw
put_one_law place x = record {
  at = ap (λ (b : Bool). if b then Some x else None) (same_here place);
  only = λ other y is. go other y (same_place place other) refl is;
}
  where
    go : (other : Place) (y : AnyUnit) (b : Bool)
        → same_place place other ≡ b → (if b then Some x else None) ≡ Some y → (other ≡ place) × (y ≡ x)
    go other y true test is = (same_is place other test, let both : Some x ≡ Some y = is in cc)
    go other y false test is = absurd (let both : None ≡ Some y = is in cc)
