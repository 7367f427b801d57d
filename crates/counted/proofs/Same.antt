-- Places with equal numbers are equal.
use Rattle.std.proofs.Common.{◌≡◌, ◌≤◌}
use mathlib.Core.HLevel.{is_prop→PathP}
use native.Mathlib.Bridge.{le_prop}
use Rattle.stock.specs.Meaning.{most}
use Rattle.counted.specs.declared.place.Place.{Place}

pub same_place : (x y : Place) → x.capacity ≡ y.capacity → x.used ≡ y.used → x ≡ y
same_place x y c u = λ i. record {
  capacity = c i;
  used = u i;
  fits = (is_prop→PathP (λ k. c k ≤ most) (λ k. le_prop) x.fits.0 y.fits.0 i, is_prop→PathP (λ k. u k ≤ most) (λ k. le_prop) x.fits.1 y.fits.1 i);
}
