-- The laws of the field as one record.
use Rattle.std.proofs.Common.{refl}
use Rattle.std.specs.Int.Bits.{xor_assoc, xor_comm, xor_self, xor_zero_r, xor_lt}
use Rattle.gf16.specs.Field.{IsField}
use Rattle.gf16.proofs.Product.{product_is_symbol, product_assoc, product_comm, product_exchange, product_distributes_left, product_distributes, product-one_left, product-one_right, product-zero_left, product-zero_right}
use Rattle.gf16.proofs.Inverses.{one_inverse, zero_factor, product_cancel}

pub the_field : IsField
the_field = record {
  sum_closed = xor_lt 16;
  sum_associates = xor_assoc;
  sum_commutes = xor_comm;
  sum_zero = xor_zero_r;
  zero_sum = λ a. refl;
  sum_self = xor_self;
  product_closed = product_is_symbol;
  product_associates = product_assoc;
  product_commutes = product_comm;
  product_exchanges = product_exchange;
  product_distributes = product_distributes;
  product_distributes_left = λ a b c. product_distributes_left c a b;
  product_one = product-one_right;
  one_product = product-one_left;
  product_zero = product-zero_right;
  zero_product = product-zero_left;
  inverse = λ a h some. let one = one_inverse a h some in (one.inverse, one.is_symbol, one.is_inverse);
  no_zero_divisors = zero_factor;
  product_cancels = product_cancel;
}
