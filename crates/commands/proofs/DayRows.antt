-- Some days, and their numbers.
use Rattle.std.proofs.Common.{inl, inr, refl, codes, arith}
use Rattle.commands.specs.Common.{IsDayText}

last_of_layout_1 : IsDayText (codes "1975-01-04") 4095
last_of_layout_1 = record {
  first = codes "1975";
  second = codes "01";
  third = codes "04";
  year = 1975;
  month = 1;
  day = 4;
  hyphened = record {
    rest = codes "01-04";
    one = record { plain = (refl, (refl, (refl, (refl, tt)))); spelled = refl };
    two = record { plain = (refl, (refl, tt)); spelled = refl };
  };
  parts = inl (record {
    year_is = record {
      enough = omega arith;
      few = omega arith;
      digits = (refl, (refl, (refl, (refl, tt))));
      value = refl;
    };
    month_is = record { enough = omega arith; few = omega arith; digits = (refl, (refl, tt)); value = refl };
    day_is = record { enough = omega arith; few = omega arith; digits = (refl, (refl, tt)); value = refl };
  });
  day_of_calendar = record {
    year_from = omega arith;
    month_from = omega arith;
    month_to = omega arith;
    day_from = omega arith;
    day_to = omega arith;
    number_to = omega arith;
  };
  value = refl;
}

last_as_listed : IsDayText (codes "4-Jan-1975") 4095
last_as_listed = record {
  first = codes "4";
  second = codes "Jan";
  third = codes "1975";
  year = 1975;
  month = 1;
  day = 4;
  hyphened = record {
    rest = codes "Jan-1975";
    one = record { plain = (refl, tt); spelled = refl };
    two = record { plain = (refl, (refl, (refl, tt))); spelled = refl };
  };
  parts = inr (record {
    day_is = record { enough = omega arith; few = omega arith; digits = (refl, tt); value = refl };
    month_is = record { first = omega arith; last = omega arith; named = refl };
    year_is = record {
      enough = omega arith;
      few = omega arith;
      digits = (refl, (refl, (refl, (refl, tt))));
      value = refl;
    };
  });
  day_of_calendar = record {
    year_from = omega arith;
    month_from = omega arith;
    month_to = omega arith;
    day_from = omega arith;
    day_to = omega arith;
    number_to = omega arith;
  };
  value = refl;
}

first_of_all : IsDayText (codes "1964-01-01") 0
first_of_all = record {
  first = codes "1964";
  second = codes "01";
  third = codes "01";
  year = 1964;
  month = 1;
  day = 1;
  hyphened = record {
    rest = codes "01-01";
    one = record { plain = (refl, (refl, (refl, (refl, tt)))); spelled = refl };
    two = record { plain = (refl, (refl, tt)); spelled = refl };
  };
  parts = inl (record {
    year_is = record {
      enough = omega arith;
      few = omega arith;
      digits = (refl, (refl, (refl, (refl, tt))));
      value = refl;
    };
    month_is = record { enough = omega arith; few = omega arith; digits = (refl, (refl, tt)); value = refl };
    day_is = record { enough = omega arith; few = omega arith; digits = (refl, (refl, tt)); value = refl };
  });
  day_of_calendar = record {
    year_from = omega arith;
    month_from = omega arith;
    month_to = omega arith;
    day_from = omega arith;
    day_to = omega arith;
    number_to = omega arith;
  };
  value = refl;
}

pub last_of_all : IsDayText (codes "1-Feb-2052") 32767
last_of_all = record {
  first = codes "1";
  second = codes "Feb";
  third = codes "2052";
  year = 2052;
  month = 2;
  day = 1;
  hyphened = record {
    rest = codes "Feb-2052";
    one = record { plain = (refl, tt); spelled = refl };
    two = record { plain = (refl, (refl, (refl, tt))); spelled = refl };
  };
  parts = inr (record {
    day_is = record { enough = omega arith; few = omega arith; digits = (refl, tt); value = refl };
    month_is = record { first = omega arith; last = omega arith; named = refl };
    year_is = record {
      enough = omega arith;
      few = omega arith;
      digits = (refl, (refl, (refl, (refl, tt))));
      value = refl;
    };
  });
  day_of_calendar = record {
    year_from = omega arith;
    month_from = omega arith;
    month_to = omega arith;
    day_from = omega arith;
    day_to = omega arith;
    number_to = omega arith;
  };
  value = refl;
}

landing : IsDayText (codes "20-JUL-1969") 2065
landing = record {
  first = codes "20";
  second = codes "JUL";
  third = codes "1969";
  year = 1969;
  month = 7;
  day = 20;
  hyphened = record {
    rest = codes "JUL-1969";
    one = record { plain = (refl, (refl, tt)); spelled = refl };
    two = record { plain = (refl, (refl, (refl, tt))); spelled = refl };
  };
  parts = inr (record {
    day_is = record { enough = omega arith; few = omega arith; digits = (refl, (refl, tt)); value = refl };
    month_is = record { first = omega arith; last = omega arith; named = refl };
    year_is = record {
      enough = omega arith;
      few = omega arith;
      digits = (refl, (refl, (refl, (refl, tt))));
      value = refl;
    };
  });
  day_of_calendar = record {
    year_from = omega arith;
    month_from = omega arith;
    month_to = omega arith;
    day_from = omega arith;
    day_to = omega arith;
    number_to = omega arith;
  };
  value = refl;
}

no_day_of_february : IsDayText (codes "1972-02-31") 3037
no_day_of_february = record {
  first = codes "1972";
  second = codes "02";
  third = codes "31";
  year = 1972;
  month = 2;
  day = 31;
  hyphened = record {
    rest = codes "02-31";
    one = record { plain = (refl, (refl, (refl, (refl, tt)))); spelled = refl };
    two = record { plain = (refl, (refl, tt)); spelled = refl };
  };
  parts = inl (record {
    year_is = record {
      enough = omega arith;
      few = omega arith;
      digits = (refl, (refl, (refl, (refl, tt))));
      value = refl;
    };
    month_is = record { enough = omega arith; few = omega arith; digits = (refl, (refl, tt)); value = refl };
    day_is = record { enough = omega arith; few = omega arith; digits = (refl, (refl, tt)); value = refl };
  });
  day_of_calendar = record {
    year_from = omega arith;
    month_from = omega arith;
    month_to = omega arith;
    day_from = omega arith;
    day_to = omega arith;
    number_to = omega arith;
  };
  value = refl;
}
