mod Plans
