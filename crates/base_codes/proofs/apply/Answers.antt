use Rattle.base.specs.Results.{result_of}
use Rattle.base_codes.proofs.apply.Goals as goal

pub returns-in-Sum : goal.returns-in-Sum
unfolding result_of
returns-in-Sum c = rw c.in-Sum.is c.sum.ensures

pub returns-in-Difference : goal.returns-in-Difference
unfolding result_of
returns-in-Difference c = rw c.in-Difference.is c.difference.ensures

pub returns-in-Product : goal.returns-in-Product
unfolding result_of
returns-in-Product c = rw c.in-Product.is c.product.ensures

pub returns-in-LessThan : goal.returns-in-LessThan
unfolding result_of
returns-in-LessThan c = rw c.in-LessThan.is c.bit.ensures

pub returns-in-Equal : goal.returns-in-Equal
unfolding result_of
returns-in-Equal c = rw c.in-Equal.is c.bit-in-Equal.ensures

pub returns-in-And : goal.returns-in-And
unfolding result_of
returns-in-And c = rw c.in-And.is c.and.ensures

pub returns-in-Or : goal.returns-in-Or
unfolding result_of
returns-in-Or c = rw c.in-Or.is c.or.ensures

pub returns-in-Not : goal.returns-in-Not
unfolding result_of
returns-in-Not c = rw c.in-Not.is c.bit-in-Not.ensures
